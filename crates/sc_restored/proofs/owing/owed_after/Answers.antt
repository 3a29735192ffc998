-- What is owed is counted by the parts that a journal leaves.
use Rattle.std.proofs.Common.{◌∙◌, ℕ, List, length, ap, arith}
use Rattle.sc_restored.proofs.SoundLemmas.{owes_by}
use Rattle.sc_restored.proofs.UnsettledLemmas.{unsettled_few}
use Rattle.sc_restored.proofs.owing.owed_after.Goals as goal

pub owed_by-requires : goal.owed_by-requires
owed_by-requires c =
    omega (
      arith,
      c.requires.few,
      c.len.ensures,
      ap (λ (places : List ℕ). length places) c.in_ok-unsettled.ensures,
      unsettled_few c.args.entries.now,
    )

pub returns : goal.returns
returns c =
    owes_by c.args.map.now c.in_ok-slices.slices c.args.entries.now c.as_slice.result.now c.in_ok-unsettled.unsettled.places c.len.result
    c.owed_by.result c.requires.ended c.in_ok-slices.ensures
    (c.as_slice.ensures.value ∙ c.in_ok-marks.ensures) c.in_ok-unsettled.ensures c.len.ensures c.owed_by.ensures
