-- Each turn delivers what is in flight to one core, and in the end nothing is in flight to a core of a sub.
use Rattle.std.proofs.Common.{◌<◌, length, arith}
use Rattle.sc_replicas.proofs.FindLemmas.{some_at}
use Rattle.sc_handover.proofs.SettleSubsLemmas.{DeliversSome-more, length-some, none_is_to_a_sub, DeliversToSubs-all, quiet_all}
use Rattle.sc_handover.proofs.switching.deliver_to_subs.Goals as goal

pub loop-at-preserved : goal.loop-at-preserved
loop-at-preserved c =
    let old = c.args.bucket.now in
    let mid = c.loop-at.bucket in
    let within : c.loop-at.at < length mid.replicas =
    omega (arith, length-some old c.loop-at.at mid c.loop-at.invariant.some, c.loop-at-test.true, c.len-at-end.ensures) in
    let (core, there) = some_at mid.replicas c.loop-at.at within in
    record {
      sound = c.deliver_to_sub.ensures.sound;
      some = DeliversSome-more old c.loop-at.at mid c.deliver_to_sub.new.bucket core c.loop-at.invariant.some there
          (c.deliver_to_sub.ensures.quiet core there) (c.deliver_to_sub.ensures.of_sub core there)
          (c.deliver_to_sub.ensures.other core there);
    }

pub returns-clause-delivered : goal.returns-clause-delivered
returns-clause-delivered c =
    DeliversToSubs-all c.args.bucket.now c.loop-at.at c.loop-at.bucket (omega (arith, c.loop-at-test.false, c.len-at-end.ensures))
    c.loop-at.invariant.some c.loop-at.invariant.sound

pub returns-clause-settled : goal.returns-clause-settled
returns-clause-settled c =
    none_is_to_a_sub c.args.bucket.now c.loop-at.at c.loop-at.bucket (omega (arith, c.loop-at-test.false, c.len-at-end.ensures))
    c.loop-at.invariant.some c.loop-at.invariant.sound

pub returns-clause-quiet : goal.returns-clause-quiet
returns-clause-quiet c =
    quiet_all c.args.bucket.now c.loop-at.at c.loop-at.bucket (omega (arith, c.loop-at-test.false, c.len-at-end.ensures))
    c.loop-at.invariant.some
