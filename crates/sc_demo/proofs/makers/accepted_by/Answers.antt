-- The orders that one maker more accepted are counted, of which there are no more than a workload has.
use Rattle.std.proofs.Common.{refl, arith}
use Rattle.sc_demo.proofs.MakerLemmas.{one_few, one_more_counted, all_counted}
use Rattle.sc_demo.proofs.makers.accepted_by.Goals as goal

pub loop-maker-init : goal.loop-maker-init
loop-maker-init g c = record { sum = refl; few = omega arith }

pub overflow_add-accepted : goal.overflow_add-accepted
overflow_add-accepted g c =
    let one = one_few c.args.makers.now c.loop-maker.maker-index c.maker-item.result c.accepted-accepted.result c.loop-maker-test.true c.maker-item.is
    c.accepted-accepted.ensures c.requires.few in
    omega (arith, one, c.loop-maker.invariant.few, c.loop-maker-test.true, c.requires.most)

pub loop-maker-preserved : goal.loop-maker-preserved
loop-maker-preserved g c =
    let one = one_few c.args.makers.now c.loop-maker.maker-index c.maker-item.result c.accepted-accepted.result c.loop-maker-test.true c.maker-item.is
    c.accepted-accepted.ensures c.requires.few in
    record {
      sum = one_more_counted c.args.makers.now c.loop-maker.maker-index c.maker-item.result c.loop-maker.accepted c.accepted-accepted.result
          c.loop-maker-test.true c.maker-item.is c.loop-maker.invariant.sum c.accepted-accepted.ensures;
      few = omega (arith, one, c.loop-maker.invariant.few);
    }

pub returns : goal.returns
returns g c =
    all_counted c.args.makers.now c.loop-maker.maker-index c.loop-maker.accepted
    (omega (arith, c.loop-maker-test.false, c.loop-maker.auto.maker-index-end)) c.loop-maker.invariant.sum
