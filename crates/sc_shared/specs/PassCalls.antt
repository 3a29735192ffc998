-- What comes of the passes of the buckets as they are split and joined.
use Rattle.std.specs.Prelude.{◌≡◌, ◌≤◌, ◌<◌, ℕ, ◌+◌, List, length, slice_get, Some}
use Rattle.sc_lock.specs.Journal.{AreDisjoint, IsLongest, merged_places}
use Rattle.sc_lock.specs.Tokens.{lock_id, IsPassOf, IsFree, seen, own_places, splits_left}
use Rattle.sc_lock.specs.Calls.{IsNewPassOf}
use Rattle.sc_shared.specs.Passes.{BucketPass}
use Rattle.sc_shared.specs.Collections.{BucketLock}

-- the passes are of these locks, one for each, and no turn of any is out
pub record AreFreePasses (locks : List BucketLock) (passes : List BucketPass) : Type 0 where
  pub count : length passes ≡ length locks
  pub each : (number : ℕ) (lock : BucketLock) (pass : BucketPass) → slice_get locks number ≡ Some lock
      → slice_get passes number ≡ Some pass → IsPassOf (lock_id lock) pass
  pub free : (number : ℕ) (pass : BucketPass) → slice_get passes number ≡ Some pass → IsFree pass

-- one pass was split off another, which stays as it was but for its splits; the one that came has seen the same
pub record IsPassSplit (lock : BucketLock) (old new other : BucketPass) : Type 0 where
  pub is : IsPassOf (lock_id lock) new
  pub free : IsFree new
  pub seen_is : seen new ≡ seen old
  pub own_is : own_places new ≡ own_places old
  pub splits : splits_left new + 1 ≡ splits_left old
  pub other_is : IsNewPassOf (lock_id lock) (seen old) 0 other

-- one was split off each of the first so many, and the rest are as they were
pub record ArePassesSplit (count : ℕ) (locks : List BucketLock) (old new others : List BucketPass) : Type 0 where
  pub length_is : length new ≡ length old
  pub others_are : length others ≡ count
  pub each : (number : ℕ) (lock : BucketLock) (was now other : BucketPass) → number < count → slice_get locks number ≡ Some lock
      → slice_get old number ≡ Some was → slice_get new number ≡ Some now → slice_get others number ≡ Some other
      → IsPassSplit lock was now other
  pub rest : (number : ℕ) → count ≤ number → slice_get new number ≡ slice_get old number

-- two passes were joined: what comes of it has seen what both have seen, and has the entries of both
pub record IsPassJoined (lock : BucketLock) (old from new : BucketPass) : Type 0 where
  pub is : IsPassOf (lock_id lock) new
  pub free : IsFree new
  pub seen_is : IsLongest (seen old) (seen from) (seen new)
  pub disjoint : AreDisjoint (own_places old) (own_places from)
  pub own_is : own_places new ≡ merged_places (own_places old) (own_places from)

-- those from this number on were joined, and those before are as they were
pub record ArePassesJoined (count : ℕ) (locks : List BucketLock) (old from new : List BucketPass) : Type 0 where
  pub length_is : length new ≡ length old
  pub each : (number : ℕ) (lock : BucketLock) (was other now : BucketPass) → count ≤ number → slice_get locks number ≡ Some lock
      → slice_get old number ≡ Some was → slice_get from number ≡ Some other → slice_get new number ≡ Some now
      → IsPassJoined lock was other now
  pub rest : (number : ℕ) → number < count → slice_get new number ≡ slice_get old number
