-- What the desk of a thread has, and what is true of it.
use Rattle.std.specs.Prelude.{◌≡◌, ◌<◌, ℕ, Bool, true, false, List, length, map, slice_get, Option, Some, None}
use mathlib.Core.List.{IsPrefix}
use Rattle.sc_seen.specs.declared.board.BoardEntry.{BoardEntry}
use Rattle.sc_lock.specs.Tokens.{lock_id, IsTurnOf, IsTurnOfKeeper, IsFree, IsKeeperOf, IsFreeKeeper, keeper_seen, handed, badge_lock}
use Rattle.sc_collection.specs.Desks.{Held, Out}
use Rattle.sc_shared.specs.declared.passes.Passes.{Passes}
use Rattle.sc_shared.specs.declared.shared.TakenBucket.{TakenBucket}
use Rattle.sc_shared.specs.declared.shared.TakenBoard.{TakenBoard}
use Rattle.sc_shared.specs.Buckets.{name_of, IsSoundNumbered}
use Rattle.sc_shared.specs.Keepers.{BucketKeeper}
use Rattle.sc_shared.specs.Boards.{board_name_of}
use Rattle.sc_shared.specs.Passes.{BucketPass, seen_in}
use Rattle.sc_shared.specs.Collections.{Locks, BucketLock, layout_of, ids_of, bucket_name, board_name, AreOfLocks, AreFree}

-- the passes are of these locks, what they have seen is legal, and no turn of any is out
pub record ArePasses (locks : Locks) (passes : Passes) : Type 0 where
  pub of_locks : AreOfLocks locks passes.buckets.items passes.board
  pub free : AreFree passes.buckets.items passes.board

-- the desk of a thread: the locks, its passes, and what is out
pub record SharedState : Type 0 where
  pub locks : Locks
  pub passes : Passes
  pub bucket : Option TakenBucket
  pub board : Option TakenBoard

-- a desk of these parts
abbrev pub shared_of : Locks → Passes → Option TakenBucket → Option TakenBoard → SharedState
shared_of locks passes bucket board = record { locks = locks; passes = passes; bucket = bucket; board = board }

-- the bucket that was handed out
abbrev pub held_of : TakenBucket → Held
held_of taken = record { number = taken.number; bucket = (handed taken.turn).bucket; by_keeper = taken.by_keeper }

abbrev pub held_in : Option TakenBucket → Option Held
held_in None = None
held_in (Some taken) = Some (held_of taken)

-- the entries of the board that was handed out, as they were then
abbrev pub handed_entries : Option TakenBoard → Option (List BoardEntry)
handed_entries None = None
handed_entries (Some taken) = Some (handed taken.turn).board.journal.entries

-- what is out of the desk
abbrev pub out_of : SharedState → Out
out_of shared = record { bucket = held_in shared.bucket; board = handed_entries shared.board }

-- the bucket of this number is out to a pass, or to its keeper
abbrev pub IsOutTo : Bool → Option TakenBucket → ℕ → Type 0
IsOutTo by_keeper bucket number = (taken : TakenBucket) × (bucket ≡ Some taken) × (taken.number ≡ number) × (taken.by_keeper ≡ by_keeper)

-- the bucket is out to this keeper, whose turn it is, and extends what the keeper has seen
pub record IsTakenBy (keeper : BucketKeeper) (taken : TakenBucket) : Type 0 where
  pub turn : IsTurnOfKeeper name_of keeper taken.turn
  pub extends : IsPrefix (keeper_seen keeper) (handed taken.turn).bucket.journal.entries

-- the keepers are those of the buckets, and a turn is out of that alone whose bucket is
pub record Fit (shared : SharedState) (keepers : List BucketKeeper) : Type 0 where
  pub count : length keepers ≡ length shared.locks.buckets
  pub each : (number : ℕ) (lock : BucketLock) (keeper : BucketKeeper) → slice_get shared.locks.buckets number ≡ Some lock
      → slice_get keepers number ≡ Some keeper → IsKeeperOf (lock_id lock) keeper
  pub free : (number : ℕ) (keeper : BucketKeeper) → slice_get keepers number ≡ Some keeper
      → (IsOutTo true shared.bucket number → ⊥) → IsFreeKeeper keeper
  pub taken : (taken : TakenBucket) (keeper : BucketKeeper) → shared.bucket ≡ Some taken → taken.by_keeper ≡ true
      → slice_get keepers taken.number ≡ Some keeper → IsTakenBy keeper taken

-- The bucket that is out was sound when it was handed out, and the one of its number; it extends what the thread has seen; and where it
-- is out to a pass, its turn is that pass's.
pub record IsTakenBucket (shared : SharedState) (taken : TakenBucket) : Type 0 where
  pub within : taken.number < length shared.locks.buckets
  pub sound : IsSoundNumbered (handed taken.turn)
  pub name : name_of (handed taken.turn) ≡ bucket_name (layout_of shared.locks) taken.number
  pub extends : IsPrefix (seen_in (slice_get shared.passes.buckets.items taken.number)) (handed taken.turn).bucket.journal.entries
  pub turn : taken.by_keeper ≡ false → (pass : BucketPass) → slice_get shared.passes.buckets.items taken.number ≡ Some pass
      → IsTurnOf name_of pass taken.turn

-- The board that is out was the collection's when it was handed out, with the badges of its locks and with what was opened, and its turn is
-- of the board's pass.
pub record IsTakenBoard (shared : SharedState) (taken : TakenBoard) : Type 0 where
  pub name : board_name_of (handed taken.turn) ≡ board_name shared.locks
  pub badges : map badge_lock taken.badges.items ≡ ids_of shared.locks.buckets
  pub opened : taken.opened ≡ (board_name shared.locks).opened
  pub turn : IsTurnOf board_name_of shared.passes.board taken.turn

-- What is true of the desk of a thread: its passes are of the locks, and a turn is out of those alone whose bucket, or board, is out.
pub record IsShared (shared : SharedState) : Type 0 where
  pub passes : AreOfLocks shared.locks shared.passes.buckets.items shared.passes.board
  pub free : (number : ℕ) (pass : BucketPass) → slice_get shared.passes.buckets.items number ≡ Some pass
      → (IsOutTo false shared.bucket number → ⊥) → IsFree pass
  pub bucket : (taken : TakenBucket) → shared.bucket ≡ Some taken → IsTakenBucket shared taken
  pub board_free : shared.board ≡ None → IsFree shared.passes.board
  pub board : (taken : TakenBoard) → shared.board ≡ Some taken → IsTakenBoard shared taken

-- and it is over the collection behind the locks of its home
pub record IsAtHome (home : Option Locks) (shared : SharedState) : Type 0 where
  pub shared_is : IsShared shared
  pub locks_are : home ≡ Some shared.locks
