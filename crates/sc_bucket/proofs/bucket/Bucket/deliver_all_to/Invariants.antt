-- The bucket is sound, and once the rest is delivered all is.
use Rattle.std.proofs.Common.{length}
use Rattle.sc_bucket.specs.declared.bucket.Bucket.{Bucket}
use Rattle.sc_bucket.specs.Flight.{is_to}
use Rattle.sc_bucket.specs.Sound.{IsSound}
use Rattle.sc_bucket.proofs.DeliverAllLemmas.{DeliversAll}
use Rattle.sc_bucket.proofs.bucket.Bucket.deliver_all_to.Given as goal

abbrev pub invariant-loop-at : goal.invariant-loop-at
invariant-loop-at l = record {
  sound : IsSound l.self;
  rest : (new : Bucket) → DeliversAll l.self (is_to l.core) new → DeliversAll l.initial.self (is_to l.core) new;
}

abbrev pub decreases-loop-at : goal.decreases-loop-at
decreases-loop-at l = length l.self.flight.messages
