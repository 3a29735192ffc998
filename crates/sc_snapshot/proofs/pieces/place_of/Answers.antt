-- The piece that is tried ends after the rows before it and its own.
use Rattle.std.proofs.Common.{◌<◌, ◌/◌, length, refl, arith}
use Rattle.std.proofs.lemmas.Option.{slice_get_read}
use Rattle.sc_snapshot.proofs.PieceLemmas.{ends-after}
use Rattle.sc_snapshot.proofs.pieces.place_of.Goals as goal

pub has-requires : goal.has-requires
has-requires c =
    let pieces = c.args.pieces.now in
    let piece = c.index-pieces-guess.result in
    let within : c.args.at / 32 < length pieces = omega (arith, c.if-guess-pieces.true) in
    let is = slice_get_read pieces (length pieces) (c.args.at / 32) piece refl within c.index-pieces-guess.is in
    let end = ends-after pieces (c.args.at / 32) piece c.requires.ends is in
    omega (arith, end)

pub returns-then-has-clause-start : goal.returns-then-has-clause-start
returns-then-has-clause-start c =
    let pieces = c.args.pieces.now in
    let piece = c.index-pieces-guess.result in
    let within : c.args.at / 32 < length pieces = omega (arith, c.if-guess-pieces.true) in
    let is = slice_get_read pieces (length pieces) (c.args.at / 32) piece refl within c.index-pieces-guess.is in
    let end = ends-after pieces (c.args.at / 32) piece c.requires.ends is in
    let has = c.has.ensures.0 c.if-has.true in
    omega (arith, end, has.0)

pub returns-then-has-clause-within : goal.returns-then-has-clause-within
returns-then-has-clause-within c =
    let pieces = c.args.pieces.now in
    let piece = c.index-pieces-guess.result in
    let within : c.args.at / 32 < length pieces = omega (arith, c.if-guess-pieces.true) in
    let is = slice_get_read pieces (length pieces) (c.args.at / 32) piece refl within c.index-pieces-guess.is in
    let end = c.requires.ends (c.args.at / 32) piece is in
    let has = c.has.ensures.0 c.if-has.true in
    omega (arith, end, has.1)
