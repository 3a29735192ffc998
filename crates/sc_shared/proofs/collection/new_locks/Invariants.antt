-- So far each lock is that of a new bucket, and there is room for the others.
use Rattle.std.proofs.Common.{◌≡◌, vec_capacity}
use Rattle.sc_shared.specs.NewLocks.{AreNewLocks}
use Rattle.sc_shared.proofs.collection.new_locks.Given as goal

abbrev pub invariant-loop-number : goal.invariant-loop-number
invariant-loop-number l = record {
  lock_room : vec_capacity l.locks ≡ l.buckets;
  pass_room : vec_capacity l.passes ≡ l.buckets;
  keeper_room : vec_capacity l.keepers ≡ l.buckets;
  badge_room : vec_capacity l.badges ≡ l.buckets;
  each : AreNewLocks l.buckets l.first l.limit l.number (record { locks = l.locks; passes = l.passes; keepers = l.keepers; badges = l.badges });
}
