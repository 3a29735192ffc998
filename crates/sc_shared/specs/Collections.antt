-- What is true of a collection whose buckets and board stand behind locks, and of the passes of a thread.
use Rattle.std.specs.Prelude.{◌≡◌, ◌≤◌, ℕ, List, [], length, map, slice_get, Some}
use Rattle.sc_record.specs.declared.entry.Entry.{Entry}
use Rattle.sc_router.specs.Route.{IsBucketCount}
use Rattle.sc_cluster.specs.declared.slice.Slice.{Slice}
use Rattle.sc_seen.specs.declared.board.BoardEntry.{BoardEntry}
use Rattle.sc_seen.specs.Seen.{Layout, Seen, AreLegal}
use Rattle.sc_keeper.specs.declared.part.Part.{Part}
use Rattle.sc_lock.specs.declared.lock.Lock.{Lock}
use Rattle.sc_lock.specs.Journal.{AreDisjoint, IsLongest, merged_places}
use Rattle.sc_lock.specs.Tokens.{lock_id, lock_name, IsPassOf, IsFree}
use Rattle.sc_shared.specs.declared.numbered.Numbered.{Numbered}
use Rattle.sc_shared.specs.declared.board.KeptBoard.{KeptBoard}
use Rattle.sc_shared.specs.Buckets.{BucketName, name_of}
use Rattle.sc_shared.specs.Boards.{BoardName, board_name_of}
use Rattle.sc_shared.specs.Keepers.{BucketLocks}
use Rattle.sc_shared.specs.Passes.{BucketPass, BoardPass, seen_by}

-- the lock of a bucket, and that of the board
abbrev pub BucketLock : Type 0
BucketLock = Lock Numbered Entry Part

abbrev pub BoardLock : Type 0
BoardLock = Lock KeptBoard BoardEntry (Unit {0})

-- the locks of a collection: one for each bucket, by its number, and the board's; and how many nodes it has
pub record Locks : Type 0 where
  pub buckets : List BucketLock
  pub board : BoardLock
  pub nodes : ℕ

-- the name of what the board's lock keeps
abbrev pub board_name : Locks → BoardName
board_name locks = lock_name board_name_of locks.board

-- how the collection behind these locks is laid out
abbrev pub layout_of : Locks → Layout
layout_of locks = record {
  buckets = length locks.buckets;
  nodes = locks.nodes;
  first = (board_name locks).first;
  limit = (board_name locks).limit;
  opened = (board_name locks).opened;
}

-- which locks the buckets have
abbrev pub ids_of : List BucketLock → BucketLocks
ids_of locks = map lock_id locks

-- the name of the bucket of this number in a collection that is laid out so
abbrev pub bucket_name : Layout → ℕ → BucketName
bucket_name layout number = record { number = number; buckets = layout.buckets; first = layout.first; limit = layout.limit }

-- Each lock keeps the bucket of its number, which began with the board's first map and has its limit; the board's has a badge of each.
pub record AreLocks (locks : Locks) (first : List Slice) : Type 0 where
  pub count : IsBucketCount (length locks.buckets)
  pub nodes : 1 ≤ locks.nodes
  pub first_is : first ≡ (board_name locks).first
  pub named : (number : ℕ) (lock : BucketLock) → slice_get locks.buckets number ≡ Some lock
      → lock_name name_of lock ≡ bucket_name (layout_of locks) number
  pub badges : (board_name locks).locks ≡ ids_of locks.buckets

-- The passes are of these locks, one for each, and what they have seen is legal.
pub record AreOfLocks (locks : Locks) (passes : List BucketPass) (board : BoardPass) : Type 0 where
  pub count : length passes ≡ length locks.buckets
  pub each : (number : ℕ) (lock : BucketLock) (pass : BucketPass) → slice_get locks.buckets number ≡ Some lock
      → slice_get passes number ≡ Some pass → IsPassOf (lock_id lock) pass
  pub of_board : IsPassOf (lock_id locks.board) board
  pub legal : AreLegal (layout_of locks) (seen_by passes board)

-- and no turn of any is out
pub record AreFree (passes : List BucketPass) (board : BoardPass) : Type 0 where
  pub each : (number : ℕ) (pass : BucketPass) → slice_get passes number ≡ Some pass → IsFree pass
  pub board_is : IsFree board

-- what was seen is the same
pub record SeesTheSame (old new : Seen) : Type 0 where
  pub journals : (lock : ℕ) → new.journals lock ≡ old.journals lock
  pub board : new.board ≡ old.board
  pub own : (lock : ℕ) → new.own lock ≡ old.own lock

-- what was seen is the same, and no entry is one's own
pub record SeesOthers (old new : Seen) : Type 0 where
  pub journals : (lock : ℕ) → new.journals lock ≡ old.journals lock
  pub board : new.board ≡ old.board
  pub own : (lock : ℕ) → new.own lock ≡ []

-- Two have seen beginnings of the same journals; together they have seen the longer one of each. No entry is both's, and theirs are
-- now one's own.
pub record SeesBoth (one other both : Seen) : Type 0 where
  pub journals : (lock : ℕ) → IsLongest (one.journals lock) (other.journals lock) (both.journals lock)
  pub board : IsLongest one.board other.board both.board
  pub disjoint : (lock : ℕ) → AreDisjoint (one.own lock) (other.own lock)
  pub own : (lock : ℕ) → both.own lock ≡ merged_places (one.own lock) (other.own lock)
