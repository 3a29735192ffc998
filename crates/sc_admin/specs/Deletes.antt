-- What deleting a shard leaves of its desk, its hosts and its trail, and what it is answered.
use Rattle.std.specs.Prelude.{◌≡◌, ◌<◌, ℕ, true, false, List, [], ◌∷◌, ◌++◌, length, take, slice_get, Some, IfSome}
use Rattle.std.specs.List.{range_with_len}
use mathlib.Core.List.{IsPrefix}
use Rattle.sc_record.specs.declared.entry.Entry.{Entry}
use Rattle.sc_record.specs.declared.entry.Entry.TheVariants as entry
use Rattle.sc_cluster.specs.declared.slice.Slice.{Slice}
use Rattle.sc_io.specs.declared.hosts.Host.{Host}
use Rattle.sc_cores.specs.Cores.{Outside, CountsGoUp, cores_of_slice, without_cores, StopsEach}
use Rattle.sc_seen.specs.Seen.{Layout, Seen, Extends, EndAtLast, FromNowOn}
use Rattle.sc_seen.specs.Moments.{View}
use Rattle.sc_seen.specs.Board.{board_map}
use Rattle.sc_seen.specs.declared.board.BoardEntry.{BoardEntry}
use Rattle.sc_seen.specs.declared.board.BoardEntry.TheVariants as board
use Rattle.sc_seen.specs.declared.stop.Stop.{Stop}
use Rattle.sc_board.specs.Splits.{IsOfNamed}
use Rattle.sc_board.specs.Drops.{IsDropRefusal}
use Rattle.sc_board.specs.declared.fault.DropFault.{DropFault}
use Rattle.sc_board.specs.declared.fault.DropFault.TheVariants as faults
use Rattle.sc_admin.specs.declared.deleting.DeleteEnd.{DeleteEnd}
use Rattle.sc_admin.specs.declared.deleting.DeleteEnd.TheVariants as ends

-- the answer to a deletion that the board refused
abbrev pub drop_refusal : DropFault → DeleteEnd
drop_refusal faults.UnknownShard = ends.UnknownShard
drop_refusal (faults.Running shard) = ends.Running shard
drop_refusal (faults.NotInactive state) = ends.NotInactive state
drop_refusal faults.Memory = ends.Memory

-- how a deletion went: it was refused, or the slice was dropped
pub data DeleteCourse : Type 0 where
  kept : DeleteCourse
  dropped : Slice → DeleteCourse

-- the board refused a deletion at its stop, for what is so there
pub record IsDropRefusedOnBoard (layout : Layout) (seen : Seen) (shard : List ℕ) (first : Stop) (end : DeleteEnd) : Type 0 where
  pub made : first.made ≡ false
  pub fault : DropFault
  pub end_is : end ≡ drop_refusal fault
  pub cause : IsDropRefusal (board_map layout.first (take first.place seen.board)) shard fault

-- the board's entry at a stop says that the slice, which had the name there, was dropped
pub record IsDroppedOnBoard (layout : Layout) (seen : Seen) (shard : List ℕ) (first : Stop) (slice : Slice) : Type 0 where
  pub made : first.made ≡ true
  pub made_is : slice_get seen.board first.place ≡ Some (board.Dropped slice.id)
  pub named : IsOfNamed (board_map layout.first (take first.place seen.board)) shard (λ one. one ≡ slice)

-- a deletion that went so is answered so, by its stop of the board
abbrev pub IsDeleteAnswered : Layout → Seen → List ℕ → Stop → DeleteCourse → DeleteEnd → Type 0
IsDeleteAnswered layout seen shard first kept end = IsDropRefusedOnBoard layout seen shard first end
IsDeleteAnswered layout seen shard first (dropped slice) end = IsDroppedOnBoard layout seen shard first slice

-- what a deletion that went so left outside, and what it was answered then: Done where each core of the slice was stopped, or else the
-- name of the first that was not, while each other was asked to stop
abbrev pub StopsCores : ℕ → DeleteCourse → Outside → Outside → DeleteEnd → Type 0
StopsCores nodes kept old new end = new ≡ old
StopsCores nodes (dropped slice) old new ends.Done =
    (new.stop_faults ≡ old.stop_faults) × IfSome old.started (λ cores. new.started ≡ Some (without_cores (cores_of_slice nodes slice) cores))
StopsCores nodes (dropped slice) old new (ends.HostFault core) =
    (old.stop_faults < new.stop_faults) × (at : ℕ) × (host : Host) × (slice_get (cores_of_slice nodes slice) at ≡ Some host) × (core ≡ host.core)
    × StopsEach (cores_of_slice nodes slice) old.started new.started old.stop_faults new.stop_faults (Some at)
StopsCores nodes (dropped slice) old new end = ⊥

-- the entries that a deletion notes on the board
abbrev pub noted_by_delete : DeleteCourse → List BoardEntry
noted_by_delete kept = []
noted_by_delete (dropped slice) = board.Dropped slice.id ∷ []

-- what a deletion leaves of a bucket: where the slice was dropped, the journal ends with the entry that says so
abbrev pub LeavesBucket : DeleteCourse → Seen → Seen → ℕ → Type 0
LeavesBucket kept old new lock = new.journals lock ≡ old.journals lock
LeavesBucket (dropped slice) old new lock =
    (before : List Entry) × IsPrefix (old.journals lock) before × (new.journals lock ≡ before ++ entry.Dropped slice.id ∷ [])

-- what stands at one moment of a deletion: what was looked at so far, and what is outside
pub record DeleteMoment : Type 0 where
  pub view : View
  pub outside : Outside

-- the moment at which these stand
abbrev pub delete_moment : View → Outside → DeleteMoment
delete_moment view outside = record { view = view; outside = outside }

-- What a deletion leaves, and what it is answered: by its stop of the board, which is its only one.
pub record IsDelete (layout : Layout) (shard : List ℕ) (old new : DeleteMoment) (end : DeleteEnd) : Type 0 where
  pub first : Stop
  pub course : DeleteCourse
  pub lock : first.lock ≡ layout.buckets
  pub stops : new.view.stops ≡ old.view.stops ++ first ∷ []
  pub extends : Extends layout old.view.seen new.view.seen (first ∷ [])
  pub last : EndAtLast layout new.view.seen (first ∷ [])
  pub answered : FromNowOn new.view.seen (λ later. IsDeleteAnswered layout later shard first course end)
  pub board : new.view.seen.board ≡ take first.place new.view.seen.board ++ noted_by_delete course
  pub own : new.view.seen.own layout.buckets ≡ old.view.seen.own layout.buckets ++ range_with_len first.place (length (noted_by_delete course))
  pub buckets : (lock : ℕ) → lock < layout.buckets → LeavesBucket course old.view.seen new.view.seen lock
  pub outside : StopsCores layout.nodes course old.outside new.outside end
  pub counts : CountsGoUp old.outside new.outside
  pub no_start : new.outside.start_faults ≡ old.outside.start_faults
  pub no_pace : new.outside.stops ≡ old.outside.stops
  pub no_reach : new.outside.reach ≡ old.outside.reach
