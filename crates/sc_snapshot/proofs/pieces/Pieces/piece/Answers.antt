-- The piece that is found has the row.
use Rattle.std.proofs.Common.{◌+◌, ◌<◌, ◌≤◌, List, take, length, refl, subst}
use Rattle.std.proofs.lemmas.Option.{slice_get_read}
use Rattle.sc_record.specs.Writes.{Write}
use Rattle.sc_snapshot.specs.declared.pieces.Piece.{Piece}
use Rattle.sc_snapshot.specs.Pieces.{rows_of, HasRow}
use Rattle.sc_snapshot.proofs.PieceLemmas.{has_row}
use Rattle.sc_snapshot.proofs.pieces.Pieces.piece.Goals as goal

pub returns : goal.returns
returns c =
    let pieces = c.self.inside.pieces.items in
    let place = c.place_of-place.result in
    let all = c.as_slice.ensures.value in
    let here = subst (λ (ps : List Piece). place < length ps) all c.place_of-place.ensures.place in
    let start = subst (λ (ps : List Piece). length (rows_of (take place ps)) ≤ c.args.at) all c.place_of-place.ensures.start in
    let within = subst (λ (ps : List Piece). c.args.at < length (rows_of (take (place + 1) ps))) all c.place_of-place.ensures.within in
    subst (λ (rows : List Write). HasRow rows c.args.at c.index.result.now) c.self.view_is
    (has_row pieces place c.args.at c.index.result.now c.self.invariant (slice_get_read pieces (length pieces) place c.index.result.now refl here c.index.ensures) start within)
