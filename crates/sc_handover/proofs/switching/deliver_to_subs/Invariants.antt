-- The bucket is sound, and what was in flight to the cores of subs so far is delivered.
use Rattle.sc_bucket.specs.Sound.{IsSound}
use Rattle.sc_handover.proofs.SettleSubsLemmas.{DeliversSome}
use Rattle.sc_handover.proofs.switching.deliver_to_subs.Given as goal

abbrev pub invariant-loop-at : goal.invariant-loop-at
invariant-loop-at l = record {
  sound : IsSound l.bucket;
  some : DeliversSome l.fn.bucket l.at l.bucket;
}
