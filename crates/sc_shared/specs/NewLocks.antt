-- The locks of the buckets of a new collection, with the first pass, the keeper and a badge of each.
use Rattle.std.specs.Prelude.{◌≡◌, ◌^◌, ℕ, List, [], length, slice_get, Some}
use Rattle.sc_cluster.specs.declared.slice.Slice.{Slice}
use Rattle.sc_keeper.specs.declared.part.Part.{Part}
use Rattle.sc_lock.specs.Tokens.{lock_id, lock_name, badge_lock, IsKeeperOf, IsFreeKeeper, keeper_places, keeper_part}
use Rattle.sc_lock.specs.Calls.{IsNewPassOf}
use Rattle.sc_collection.specs.Desks.{IsAtRest}
use Rattle.sc_shared.specs.declared.collection.NewLock.{NewLock}
use Rattle.sc_shared.specs.declared.collection.NewLocks.{NewLocks}
use Rattle.sc_shared.specs.Buckets.{BucketName, name_of}

-- A lock that keeps a new bucket of this name. Its pass has seen nothing, and its keeper made no entry and left the bucket at rest.
pub record IsNewLock (name : BucketName) (new : NewLock) : Type 0 where
  pub named : lock_name name_of new.lock ≡ name
  pub pass : IsNewPassOf (lock_id new.lock) [] (2 ^ 31) new.pass
  pub keeper : IsKeeperOf (lock_id new.lock) new.keeper
  pub free : IsFreeKeeper new.keeper
  pub no_entries : keeper_places new.keeper ≡ []
  pub left : (part : Part) × (keeper_part new.keeper ≡ Some part) × IsAtRest 0 [] name.first part []
  pub badge : badge_lock new.badge ≡ lock_id new.lock

-- the lock of this number, and what came with it
pub record IsNumber (locks : NewLocks) (number : ℕ) (new : NewLock) : Type 0 where
  pub lock : slice_get locks.locks.items number ≡ Some new.lock
  pub pass : slice_get locks.passes.items number ≡ Some new.pass
  pub keeper : slice_get locks.keepers.items number ≡ Some new.keeper
  pub badge : slice_get locks.badges.items number ≡ Some new.badge

-- so many locks, by number, of a collection that has so many buckets, whose first map and limit are these
pub record AreNewLocks (buckets : ℕ) (first : List Slice) (limit count : ℕ) (locks : NewLocks) : Type 0 where
  pub locks_are : length locks.locks.items ≡ count
  pub passes_are : length locks.passes.items ≡ count
  pub keepers_are : length locks.keepers.items ≡ count
  pub badges_are : length locks.badges.items ≡ count
  pub each : (number : ℕ) (new : NewLock) → IsNumber locks number new
      → IsNewLock (record { number = number; buckets = buckets; first = first; limit = limit }) new
