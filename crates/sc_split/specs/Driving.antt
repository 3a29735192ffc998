-- What is so of a collection between the steps of a split, and what its last steps leave.
use Rattle.std.specs.Prelude.{◌≡◌, ◌<◌, ℕ, Bool, true, false, List, [], ◌∷◌, ◌++◌, length, map, slice_get, Some, Contains, ⊤}
use Rattle.std.specs.List.{range_with_len}
use Rattle.sc_record.specs.declared.slice.SubSlice.{SubSlice}
use Rattle.sc_record.specs.declared.slice.SliceId.{SliceId}
use Rattle.sc_cluster.specs.declared.plan.SplitPlan.{SplitPlan}
use Rattle.sc_io.specs.declared.hosts.Host.{Host}
use Rattle.sc_seen.specs.Seen.{Layout, Seen, Extends, EndAtLast, FromNowOn}
use Rattle.sc_seen.specs.Moments.{View}
use Rattle.sc_seen.specs.Commits.{CommitAnswer, AnswersCommits, commit_stops, worst}
use Rattle.sc_seen.specs.declared.board.BoardEntry.{BoardEntry}
use Rattle.sc_seen.specs.declared.board.BoardEntry.TheVariants as board
use Rattle.sc_collection.specs.Desks.{AreAtRest}
use Rattle.sc_collection.specs.Known.{Known, OfBuckets}
use Rattle.sc_split.specs.declared.end.Fault.{Fault}
use Rattle.sc_split.specs.declared.end.Fault.TheVariants as faults
use Rattle.sc_split.specs.declared.end.SplitEnd.{SplitEnd}
use Rattle.sc_split.specs.declared.end.SplitEnd.TheVariants as ends
use Rattle.sc_cores.specs.Cores.{CountsGoUp}
use Rattle.sc_split.specs.Outside.{StartsCoresOfPlan, LeavesCores}
use Rattle.sc_split.specs.Stages.{OpenSplit, IsOpenIn, IsAtStage, IsUnbegun, whole}
use Rattle.sc_split.specs.Splits.{SplitMoment, IsSwitchedIn, IsFailedIfBegun, HadNoRoom, IsCause}
use Rattle.sc_collection.specs.Committing.{commits_told}

-- The split of the plan has begun on the board, after these entries: that is the last of them, and one's own. Each bucket is at rest as
-- they say.
pub record HasBegunOnBoard (layout : Layout) (plan : SplitPlan) (entries : List BoardEntry) (known : Known) : Type 0 where
  pub board : known.seen.board ≡ entries ++ board.Begun plan ∷ []
  pub own : Contains (known.seen.own layout.buckets) (length entries)
  pub rest : AreAtRest layout entries known.keeping

-- the entry that the slices are recovered, where they are
abbrev pub recovering_entries : SliceId → Bool → List BoardEntry
recovering_entries parent true = board.Recovering parent ∷ []
recovering_entries parent false = []

-- The split that began on the board after these entries runs there still, its slices being recovered or not. It began in the first
-- buckets, so many of them, where it is open; in the others it could still begin, or nothing was seen of them.
pub record IsHalted (layout : Layout) (split : OpenSplit) (entries : List BoardEntry) (recovered : Bool) (begun : ℕ) (known : Known) : Type 0 where
  pub rest : AreAtRest layout entries split.base.keeping
  pub board : known.seen.board ≡ entries ++ board.Begun split.plan ∷ recovering_entries split.plan.parent recovered
  pub own : Contains (known.seen.own layout.buckets) (length entries)
  pub opened : OfBuckets 0 begun (IsOpenIn split known)
  pub unbegun : OfBuckets begun layout.buckets (IsUnbegun split layout.first known)

-- The split that began on the board after these entries runs there, its slices are recovered, and in each bucket all its cores are
-- there and filled.
pub record IsWholeSplit (layout : Layout) (split : OpenSplit) (entries : List BoardEntry) (known : Known) : Type 0 where
  pub rest : AreAtRest layout entries split.base.keeping
  pub board : known.seen.board ≡ entries ++ board.Begun split.plan ∷ board.Recovering split.plan.parent ∷ []
  pub own : Contains (known.seen.own layout.buckets) (length entries)
  pub whole : OfBuckets 0 layout.buckets (IsAtStage split (whole split.plan) known)

-- These entries came to the end of the board's journal, and are one's own; no stop made them.
pub record NotesMore (layout : Layout) (entries : List BoardEntry) (old new : Seen) : Type 0 where
  pub board : new.board ≡ old.board ++ entries
  pub own : new.own layout.buckets ≡ old.own layout.buckets ++ range_with_len (length old.board) (length entries)

-- The cores of a split were made, as far as that went: of the board, the entry that its slices are recovered may have come, and of the
-- buckets no entry is one's own.
pub record Builds (layout : Layout) (split : OpenSplit) (entries : List BoardEntry) (begun : ℕ) (old new : Known) : Type 0 where
  pub recovered : Bool
  pub halted : IsHalted layout split entries recovered begun new
  pub extends : Extends layout old.seen new.seen []
  pub noted : NotesMore layout (recovering_entries split.plan.parent recovered) old.seen new.seen

-- why making the cores ended, by what came before: a fault is reported only so
abbrev pub IsFault : Layout → SplitPlan → SplitMoment → SplitMoment → Fault → Type 0
IsFault layout plan old new faults.LogFull = (lock : ℕ) × HadNoRoom layout plan old.view.seen new.view.seen lock
IsFault layout plan old new faults.Host = old.outside.start_faults < new.outside.start_faults
IsFault layout plan old new faults.Stopped = old.outside.stops < new.outside.stops
IsFault layout plan old new faults.Memory = ⊤

-- the split was given up: where it had begun in a bucket it failed there, the board says so, and no stop was kept
pub record GivesUp (layout : Layout) (plan : SplitPlan) (base old new : Seen) : Type 0 where
  pub extends : Extends layout old new []
  pub noted : NotesMore layout (board.Failed plan.parent ∷ []) old new
  pub failed : (lock : ℕ) → lock < layout.buckets → IsFailedIfBegun plan (length (base.journals lock)) (new.journals lock)

-- the split was closed: in each bucket it was switched, the board says so, and no stop was kept
pub record Closes (layout : Layout) (plan : SplitPlan) (base old new : Seen) : Type 0 where
  pub extends : Extends layout old new []
  pub noted : NotesMore layout (board.Done plan.parent ∷ []) old new
  pub switched : (lock : ℕ) → lock < layout.buckets → IsSwitchedIn plan (length (base.journals lock)) (new.journals lock)

-- the split was done: in each bucket it was switched, the board says so, and then each bucket was committed
pub record Finishes (layout : Layout) (plan : SplitPlan) (base : Seen) (old new : View) (end : SplitEnd) : Type 0 where
  pub answers : List CommitAnswer
  pub stops : new.stops ≡ old.stops ++ commit_stops answers
  pub extends : Extends layout old.seen new.seen (commit_stops answers)
  pub last : EndAtLast layout new.seen (commit_stops answers)
  pub answered : FromNowOn new.seen (λ later. AnswersCommits layout later layout.buckets answers)
  pub noted : NotesMore layout (board.Done plan.parent ∷ []) old.seen new.seen
  pub switched : (lock : ℕ) → lock < layout.buckets → IsSwitchedIn plan (length (base.journals lock)) (new.seen.journals lock)
  pub end_is : end ≡ ends.Done (map (λ (sub : SubSlice). sub.name) plan.subs) (commits_told (worst answers))

-- A split that had begun on the board was done, and its cores are started.
pub record IsSplitDone (layout : Layout) (plan : SplitPlan) (old new : SplitMoment) (end : SplitEnd) : Type 0 where
  pub answers : List CommitAnswer
  pub stops : new.view.stops ≡ old.view.stops ++ commit_stops answers
  pub extends : Extends layout old.view.seen new.view.seen (commit_stops answers)
  pub last : EndAtLast layout new.view.seen (commit_stops answers)
  pub answered : FromNowOn new.view.seen (λ later. AnswersCommits layout later layout.buckets answers)
  pub noted : NotesMore layout (board.Recovering plan.parent ∷ board.Done plan.parent ∷ []) old.view.seen new.view.seen
  pub switched : (lock : ℕ) → lock < layout.buckets → IsSwitchedIn plan (length (old.view.seen.journals lock)) (new.view.seen.journals lock)
  pub end_is : end ≡ ends.Done (map (λ (sub : SubSlice). sub.name) plan.subs) (commits_told (worst answers))
  pub outside : StartsCoresOfPlan layout.nodes plan old.outside new.outside

-- A split that had begun on the board was given up, after its slices were recovered or before, once so many of its cores were started; each
-- of those was stopped, or stopping it failed.
pub record IsGivenUpOnBoard (layout : Layout) (plan : SplitPlan) (old new : SplitMoment) (end : SplitEnd) : Type 0 where
  pub recovered : Bool
  pub started : ℕ
  pub stops : new.view.stops ≡ old.view.stops
  pub extends : Extends layout old.view.seen new.view.seen []
  pub noted : NotesMore layout (recovering_entries plan.parent recovered ++ board.Failed plan.parent ∷ []) old.view.seen new.view.seen
  pub failed : (lock : ℕ) → lock < layout.buckets → IsFailedIfBegun plan (length (old.view.seen.journals lock)) (new.view.seen.journals lock)
  pub cause : IsCause layout plan started old new end
  pub outside : LeavesCores layout.nodes plan started old.outside new.outside
  pub counts : CountsGoUp old.outside new.outside
  pub no_reach : new.outside.reach ≡ old.outside.reach

-- what a split came to that is given up for this reason; these are its cores, of which so many were started
abbrev pub IsEndOf : List Host → ℕ → Fault → SplitEnd → Type 0
IsEndOf cores started faults.LogFull end = end ≡ ends.LogFull
IsEndOf cores started faults.Host end = (host : Host) × (slice_get cores started ≡ Some host) × (end ≡ ends.HostFault host.core)
IsEndOf cores started faults.Stopped end = end ≡ ends.Stopped
IsEndOf cores started faults.Memory end = end ≡ ends.Memory
