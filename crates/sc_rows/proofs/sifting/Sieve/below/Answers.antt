-- One row more is cleared.
use Rattle.std.proofs.Common.{◌<◌, ℕ, length, slice_get, slice_index, List, Bool, false, ap, ◌∙◌, arith}
use Rattle.std.proofs.lemmas.List.{length-set}
use Rattle.std.proofs.lemmas.List.Elements.{All-get_or}
use Rattle.sc_rows.proofs.SiftingLemmas.{marks_more}
use Rattle.sc_rows.proofs.sifting.Sieve.below.Goals as goal

pub loop-row-preserved : goal.loop-row-preserved
loop-row-preserved c =
    let rows = c.args.rows.now in
    let i = c.loop-row.invariant in
    let at = c.loop-row.row-index in
    let within : at < length rows = omega (arith, c.loop-row-test.true) in
    let below = All-get_or (λ (r : ℕ). r < c.args.end) rows at 0 within c.requires in
    let cleared = c.clear.ensures in
    record {
      as_long = ap (λ (bits : List Bool). length bits) cleared ∙ length-set c.loop-row.absent (slice_index rows at) false ∙ i.as_long;
      marks = λ row low. ap (λ (bits : List Bool). slice_get bits row) cleared ∙ marks_more rows c.loop-row.absent c.args.end at within below i.as_long i.marks row low;
    }
