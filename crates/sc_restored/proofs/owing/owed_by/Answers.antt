-- What the next slice owes is counted.
use Rattle.std.proofs.Common.{◌∙◌, ◌+◌, List, sym, ap, arith}
use Rattle.std.specs.Option.{option_copied}
use Rattle.std.proofs.lemmas.List.{take_all}
use Rattle.sc_cluster.specs.declared.slice.Slice.{Slice}
use Rattle.sc_restored.proofs.OwingLemmas.{owed_of_slices, owed_next}
use Rattle.sc_restored.proofs.owing.owed_by.Goals as goal

pub loop-at-preserved : goal.loop-at-preserved
loop-at-preserved c =
    let slice = c.unwrap.result.now in
    let more = owed_next c.args.map.now c.loop-at.at slice c.args.marks.now (sym c.get.ensures.slice ∙ ap option_copied c.unwrap.ensures) in
    record {
      counted = omega (arith, c.loop-at.invariant.counted, more, c.owed_of-owed.ensures.count);
      few = omega (arith, c.loop-at.invariant.few, c.owed_of-owed.ensures.few);
    }

pub returns : goal.returns
returns c =
    c.loop-at.invariant.counted
    ∙ ap (λ (slices : List Slice). c.args.unsettled + owed_of_slices slices c.args.marks.now)
    (take_all c.loop-at.at c.args.map.now (omega (arith, c.loop-at-test.false, c.len-at-end.ensures)))
