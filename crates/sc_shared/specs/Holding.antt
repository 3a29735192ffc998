-- What holds and gives of one bucket ask of the passes and the keepers of a thread, and leave of them.
use Rattle.std.specs.Prelude.{◌≡◌, ℕ, List, set, slice_get, Some}
use mathlib.Core.List.{IsPrefix}
use Rattle.sc_record.specs.declared.entry.Entry.{Entry}
use Rattle.sc_bucket.specs.declared.bucket.Bucket.{Bucket}
use Rattle.sc_keeper.specs.declared.part.Part.{Part}
use Rattle.sc_keeper.specs.Part.{part_of}
use Rattle.sc_lock.specs.declared.turn.Turn.{Turn}
use Rattle.sc_lock.specs.Journal.{places_after}
use Rattle.sc_lock.specs.Tokens.{lock_id, IsPassOf, IsFree, seen, own_places, IsTurnOf, IsKeeperOf, IsFreeKeeper, IsTurnOfKeeper, keeper_seen, keeper_places, keeper_part, handed}
use Rattle.sc_lock.specs.Calls.{PassKnowsTheSame}
use Rattle.sc_shared.specs.declared.numbered.Numbered.{Numbered}
use Rattle.sc_shared.specs.declared.passes.Passes.{Passes}
use Rattle.sc_shared.specs.Buckets.{name_of, IsSoundNumbered}
use Rattle.sc_shared.specs.Keepers.{BucketKeeper}
use Rattle.sc_shared.specs.Passes.{BucketPass}
use Rattle.sc_shared.specs.Collections.{Locks, BucketLock, layout_of, bucket_name}

-- the turn of a bucket
abbrev pub BucketTurn : Type 0
BucketTurn = Turn Numbered Entry Part

-- the passes and the keepers of a thread
pub record Hands : Type 0 where
  pub passes : Passes
  pub keepers : List BucketKeeper

-- it is a pass of the lock of this number
abbrev pub IsPassAt : Locks → ℕ → BucketPass → Type 0
IsPassAt locks number pass = (lock : BucketLock) → slice_get locks.buckets number ≡ Some lock → IsPassOf (lock_id lock) pass

-- it is the keeper of the lock of this number
abbrev pub IsKeeperAt : Locks → ℕ → BucketKeeper → Type 0
IsKeeperAt locks number keeper = (lock : BucketLock) → slice_get locks.buckets number ≡ Some lock → IsKeeperOf (lock_id lock) keeper

-- the pass of this number is free
abbrev pub IsFreeAt : List BucketPass → ℕ → Type 0
IsFreeAt passes number = (pass : BucketPass) → slice_get passes number ≡ Some pass → IsFree pass

-- the turn is of the pass of this number
abbrev pub IsTurnAtPass : List BucketPass → ℕ → BucketTurn → Type 0
IsTurnAtPass passes number turn = (pass : BucketPass) → slice_get passes number ≡ Some pass → IsTurnOf name_of pass turn

-- there is a keeper of this number, and it is that of the lock of this number
pub record HasKeeperAt (locks : Locks) (keepers : List BucketKeeper) (number : ℕ) : Type 0 where
  pub there : (keeper : BucketKeeper) × (slice_get keepers number ≡ Some keeper)
  pub of_lock : (keeper : BucketKeeper) → slice_get keepers number ≡ Some keeper → IsKeeperAt locks number keeper

-- the keeper of this number is free
abbrev pub IsFreeKeeperAt : List BucketKeeper → ℕ → Type 0
IsFreeKeeperAt keepers number = (keeper : BucketKeeper) → slice_get keepers number ≡ Some keeper → IsFreeKeeper keeper

-- the turn is of the keeper of this number
abbrev pub IsTurnAtKeeper : List BucketKeeper → ℕ → BucketTurn → Type 0
IsTurnAtKeeper keepers number turn =
    (keeper : BucketKeeper) → slice_get keepers number ≡ Some keeper → IsTurnOfKeeper name_of keeper turn

-- the bucket that was handed out with the turn extends what the pass of this number has seen
abbrev pub ExtendsPassAt : List BucketPass → ℕ → BucketTurn → Type 0
ExtendsPassAt passes number turn =
    (pass : BucketPass) → slice_get passes number ≡ Some pass → IsPrefix (seen pass) (handed turn).bucket.journal.entries

-- the one of this number was the first, and is now the second; the others are as they were
pub record Changes {A : Type 0} (old new : List A) (number : ℕ) (before after : A) : Type 0 where
  pub was : slice_get old number ≡ Some before
  pub is : new ≡ set old number after

-- the pass of this number was the first, and is now the second, which is of its lock; the others are as they were
pub record ChangesPass (locks : Locks) (number : ℕ) (old new : Passes) (before after : BucketPass) : Type 0 where
  pub bucket : Changes old.buckets.items new.buckets.items number before after
  pub board : new.board ≡ old.board
  pub of_lock : IsPassAt locks number after

-- so with keepers
pub record ChangesKeeper (locks : Locks) (number : ℕ) (old new : List BucketKeeper) (before after : BucketKeeper) : Type 0 where
  pub bucket : Changes old new number before after
  pub of_lock : IsKeeperAt locks number after

-- this bucket was handed out with the turn: it is sound, and the one of this number
pub record IsBucketHandedOut (locks : Locks) (number : ℕ) (bucket : Bucket) (turn : BucketTurn) : Type 0 where
  pub bucket_is : (handed turn).bucket ≡ bucket
  pub sound : IsSoundNumbered (handed turn)
  pub name : name_of (handed turn) ≡ bucket_name (layout_of locks) number

-- What a hold leaves: the bucket extends what its pass has seen, whose turn it is, and which knows what it knew.
pub record IsHeld (locks : Locks) (number : ℕ) (old new : Passes) (bucket : Bucket) (turn : BucketTurn) : Type 0 where
  pub out : IsBucketHandedOut locks number bucket turn
  pub before : BucketPass
  pub after : BucketPass
  pub pass : ChangesPass locks number old new before after
  pub same : PassKnowsTheSame before after
  pub turn_is : IsTurnOf name_of after turn
  pub extends : IsPrefix (seen before) bucket.journal.entries

-- What a give leaves: the pass is free, has seen the bucket's journal, and has the place of the entry that was added, if one was.
pub record IsGiven (locks : Locks) (number : ℕ) (old new : Passes) (turn : BucketTurn) (given : Bucket) : Type 0 where
  pub before : BucketPass
  pub after : BucketPass
  pub pass : ChangesPass locks number old new before after
  pub free : IsFree after
  pub seen_is : seen after ≡ given.journal.entries
  pub places : own_places after ≡ places_after (own_places before) (handed turn).bucket.journal.entries given.journal.entries

-- What a hold by a keeper leaves: the bucket has the part that the keeper left, and extends what the keeper has seen and what the pass
-- has; the keeper may have seen more than it had, and keeps the rest.
pub record IsHeldByKeeper (locks : Locks) (number : ℕ) (old new : Hands) (bucket : Bucket) (turn : BucketTurn) : Type 0 where
  pub out : IsBucketHandedOut locks number bucket turn
  pub before : BucketPass
  pub after : BucketPass
  pub pass : ChangesPass locks number old.passes new.passes before after
  pub same : PassKnowsTheSame before after
  pub free : IsFree after
  pub extends : IsPrefix (seen before) bucket.journal.entries
  pub keeper_before : BucketKeeper
  pub keeper_after : BucketKeeper
  pub keeper : ChangesKeeper locks number old.keepers new.keepers keeper_before keeper_after
  pub turn_is : IsTurnOfKeeper name_of keeper_after turn
  pub learns : IsPrefix (keeper_seen keeper_before) (keeper_seen keeper_after)
  pub keeper_extends : IsPrefix (keeper_seen keeper_after) bucket.journal.entries
  pub places : keeper_places keeper_after ≡ keeper_places keeper_before
  pub part : keeper_part keeper_after ≡ keeper_part keeper_before
  pub left : keeper_part keeper_before ≡ Some (part_of bucket)

-- What a give by a keeper leaves: the keeper and the pass are free and have both seen the bucket's journal; the keeper left the bucket's
-- part, and has the place of the entry that was added, if one was; the pass has those that it had.
pub record IsGivenByKeeper (locks : Locks) (number : ℕ) (old new : Hands) (turn : BucketTurn) (given : Bucket) : Type 0 where
  pub before : BucketPass
  pub after : BucketPass
  pub pass : ChangesPass locks number old.passes new.passes before after
  pub free : IsFree after
  pub seen_is : seen after ≡ given.journal.entries
  pub places : own_places after ≡ own_places before
  pub keeper_before : BucketKeeper
  pub keeper_after : BucketKeeper
  pub keeper : ChangesKeeper locks number old.keepers new.keepers keeper_before keeper_after
  pub keeper_free : IsFreeKeeper keeper_after
  pub keeper_seen_is : keeper_seen keeper_after ≡ given.journal.entries
  pub keeper_places_are : keeper_places keeper_after
      ≡ places_after (keeper_places keeper_before) (handed turn).bucket.journal.entries given.journal.entries
  pub part : keeper_part keeper_after ≡ Some (part_of given)
