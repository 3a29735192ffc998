-- The bucket is sound, its write is not settled, and once the rest is delivered all is.
use Rattle.std.proofs.Common.{◌≡◌, length}
use Rattle.sc_bucket.specs.declared.bucket.Bucket.{Bucket}
use Rattle.sc_bucket.specs.Sound.{IsSound}
use Rattle.sc_bucket.proofs.DeliverAllLemmas.{DeliversAll}
use Rattle.sc_bucket.specs.Flight.{is_of_write}
use Rattle.sc_bucket.proofs.bucket.Bucket.settle.Given as goal

abbrev pub invariant-loop : goal.invariant-loop
invariant-loop l = record {
  sound : IsSound l.self;
  entries : l.self.journal.entries ≡ l.initial.self.journal.entries;
  rest : (new : Bucket) → DeliversAll l.self (is_of_write l.place) new → DeliversAll l.initial.self (is_of_write l.place) new;
}

abbrev pub decreases-loop : goal.decreases-loop
decreases-loop l = length l.self.flight.messages
