-- What the steps of a split on the board leave.
use Rattle.std.specs.Prelude.{◌≡◌, ◌≢◌, ℕ, true, false, [], ◌∷◌, ◌++◌, length}
use mathlib.Core.List.{IsPrefix}
use Rattle.sc_cluster.specs.declared.plan.SplitPlan.{SplitPlan}
use Rattle.sc_seen.specs.Seen.{Layout, Seen}
use Rattle.sc_seen.specs.Moments.{View}
use Rattle.sc_seen.specs.declared.board.BoardEntry.{BoardEntry}
use Rattle.sc_seen.specs.declared.board.BoardEntry.TheVariants as board
use Rattle.sc_handover.specs.declared.beginning.BeginFault.{BeginFault}
use Rattle.sc_handover.specs.declared.beginning.BeginFault.TheVariants as begins
use Rattle.sc_split.specs.declared.end.Fault.{Fault}
use Rattle.sc_split.specs.declared.end.Fault.TheVariants as faults
use Rattle.sc_board.specs.Splits.{AskedSplit, IsPlanOf, IsRefusal}
use Rattle.sc_board.specs.declared.fault.BoardFault.{BoardFault}

-- why a split is given up, by why it did not begin in a bucket
abbrev pub begin_fault : BeginFault → Fault
begin_fault begins.LogFull = faults.LogFull
begin_fault begins.Memory = faults.Memory

-- One entry of one's own came to the end of the board's journal, and all else that was seen stayed.
pub record NotesOne (layout : Layout) (one : BoardEntry) (old new : Seen) : Type 0 where
  pub board : new.board ≡ old.board ++ one ∷ []
  pub journals : (lock : ℕ) → new.journals lock ≡ old.journals lock
  pub own : new.own layout.buckets ≡ old.own layout.buckets ++ length old.board ∷ []
  pub others_own : (lock : ℕ) → lock ≢ layout.buckets → new.own lock ≡ old.own lock

-- A split began on the board by this plan, at a stop: the entry that says so is one's own, and comes after what the board had then.
pub record Opens (layout : Layout) (asked : AskedSplit) (old new : View) (plan : SplitPlan) : Type 0 where
  pub between : Seen
  pub went_on : IsPrefix old.seen.board between.board
  pub journals : (lock : ℕ) → between.journals lock ≡ old.seen.journals lock
  pub own : (lock : ℕ) → between.own lock ≡ old.seen.own lock
  pub plan_is : IsPlanOf layout.first between.board asked plan
  pub notes : NotesOne layout (board.Begun plan) between new.seen
  pub stops : new.stops ≡ old.stops ++ record { lock = layout.buckets; place = length between.board; made = true } ∷ []

-- The board refused a split, at a stop: what was seen of it may have gone on, and all else that was seen stayed.
pub record Refuses (layout : Layout) (asked : AskedSplit) (old new : View) (fault : BoardFault) : Type 0 where
  pub went_on : IsPrefix old.seen.board new.seen.board
  pub journals : (lock : ℕ) → new.seen.journals lock ≡ old.seen.journals lock
  pub own : (lock : ℕ) → new.seen.own lock ≡ old.seen.own lock
  pub cause : IsRefusal layout.first layout.limit new.seen.board asked fault
  pub stops : new.stops ≡ old.stops ++ record { lock = layout.buckets; place = length new.seen.board; made = false } ∷ []
