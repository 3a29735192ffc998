-- The byte stands above all bits that the word has.
use Rattle.std.proofs.Common.{◌*◌, ◌%◌, ◌^◌, ◌<◌, bit_or, arith, ap, ◌∙◌}
use Rattle.std.proofs.Math.Nat.{mod-eq_of_lt}
use Rattle.std.specs.Int.Bits.{or_shifted_r}
use Rattle.sc_hash.proofs.HasherLemmas.{push_below, push_fits}
use Rattle.sc_hash.proofs.hasher.with_byte.Goals as goal

pub returns-clause-value : goal.returns-clause-value
returns-clause-value c =
    let word = c.args.word in
    let byte = c.args.byte in
    let place = c.args.place in
    let below = push_below word byte place (omega arith) c.requires.below in
    let fits : byte * 2 ^ (8 * place) < 2 ^ 32 = omega (arith, below, push_fits place c.requires.place) in
    ap (λ n. bit_or word (n * 2 ^ (8 * place) % 2 ^ 32)) c.from.ensures
    ∙ ap (bit_or word) (mod-eq_of_lt fits)
    ∙ or_shifted_r byte (8 * place) word c.requires.below
    ∙ omega arith

pub returns-clause-below : goal.returns-clause-below
returns-clause-below c =
    let below = push_below c.args.word c.args.byte c.args.place (omega arith) c.requires.below in
    omega (arith, returns-clause-value c, below)
