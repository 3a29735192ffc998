-- A signed number and its bits are one.
use Rattle.std.proofs.Common.{◌≡◌, FitsSigned, w32, of_z, ap, ◌∙◌, rules}
use Rattle.std.proofs.lemmas.Int.{to_z-of_z}
use Rattle.sc_hash.specs.Range.{range_text}
use Rattle.sc_hash.proofs.text.range_text.Goals as goal

pub returns : goal.returns
unfolding range_text
returns c =
    let range = c.args.range.now in
    let min_fits : FitsSigned w32 range.min = search rules in
    let max_fits : FitsSigned w32 range.max = search rules in
    let min : c.cast_unsigned.result ≡ of_z w32 range.min = c.cast_unsigned.ensures ∙ ap (of_z w32) (to_z-of_z w32 range.min min_fits) in
    let max : c.cast_unsigned-2.result ≡ of_z w32 range.max = c.cast_unsigned-2.ensures ∙ ap (of_z w32) (to_z-of_z w32 range.max max_fits) in
    rw (min, max) at c.hex_pair.ensures
