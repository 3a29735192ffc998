-- What a split leaves of its desk, its hosts and its trail, and what it is answered.
use Rattle.std.specs.Prelude.{◌≡◌, ◌≤◌, ◌<◌, ℕ, Bool, true, false, List, [], ◌∷◌, ◌++◌, length, map, take, slice_get, find, Some, None, ⊤}
use Rattle.std.specs.List.{range_with_len}
use mathlib.Core.List.{IsPrefix}
use Rattle.sc_record.specs.declared.slice.SubSlice.{SubSlice}
use Rattle.sc_record.specs.declared.entry.Entry.{Entry}
use Rattle.sc_record.specs.declared.entry.Entry.TheVariants as entry
use Rattle.sc_cluster.specs.declared.plan.SplitPlan.{SplitPlan}
use Rattle.sc_io.specs.declared.hosts.Host.{Host}
use Rattle.sc_journal.specs.Splits.{open_split, entries_of_split, IsFullFor}
use Rattle.sc_seen.specs.Seen.{Layout, Seen, Extends, EndAtLast, FromNowOn}
use Rattle.sc_seen.specs.Moments.{View}
use Rattle.sc_seen.specs.Rounds.{board_entries}
use Rattle.sc_seen.specs.Rounds as rounds
use Rattle.sc_seen.specs.Commits.{CommitAnswer, AnswersCommits, commit_stops, worst}
use Rattle.sc_seen.specs.declared.board.BoardEntry.{BoardEntry}
use Rattle.sc_seen.specs.declared.board.BoardEntry.TheVariants as board
use Rattle.sc_seen.specs.declared.stop.Stop.{Stop}
use Rattle.sc_board.specs.Splits.{AskedSplit, IsPlanOf, IsRefusal}
use Rattle.sc_board.specs.declared.fault.BoardFault.{BoardFault}
use Rattle.sc_board.specs.declared.fault.BoardFault.TheVariants as faults
use Rattle.sc_collection.specs.Committing.{commits_told}
use Rattle.sc_split.specs.declared.end.SplitEnd.{SplitEnd}
use Rattle.sc_split.specs.declared.end.SplitEnd.TheVariants as ends
use Rattle.sc_cores.specs.Cores.{Outside, CountsGoUp}
use Rattle.sc_split.specs.Outside.{cores_of, StartsCoresOfPlan, LeavesCores}

-- what stands at one moment of a split: what was looked at so far, and what is outside
pub record SplitMoment : Type 0 where
  pub view : View
  pub outside : Outside

-- the moment at which these stand
abbrev pub split_moment : View → Outside → SplitMoment
split_moment view outside = record { view = view; outside = outside }

-- how a split went
pub data Course : Type 0 where
  -- it did not begin
  refused : Course
  -- it began by this plan, and was given up, after its slices were recovered or before, once so many of its cores were started
  given_up : SplitPlan → (recovered : Bool) → (started : ℕ) → Course
  -- it was done by this plan, and then came these commits
  done : SplitPlan → List CommitAnswer → Course

-- the entries that a split notes on the board
abbrev pub noted_by : Course → List BoardEntry
noted_by refused = []
noted_by (given_up plan recovered started) = board_entries (rounds.failed plan recovered true)
noted_by (done plan answers) = board_entries (rounds.done plan)

-- the stops of a split: that of the board, and then those of the commits
abbrev pub split_stops : Stop → Course → List Stop
split_stops first refused = first ∷ []
split_stops first (given_up plan recovered started) = first ∷ []
split_stops first (done plan answers) = first ∷ commit_stops answers

-- the entry begins a split, or ends one
abbrev pub is_of_split : Entry → Bool
is_of_split (entry.Begun parent subs) = true
is_of_split (entry.Switched parent) = true
is_of_split (entry.Failed parent) = true
is_of_split _ = false

-- The journal has the entry that begins the split of the plan, at a place, and these entries after it.
pub record BeginsAt (plan : SplitPlan) (journal : List Entry) (place : ℕ) (later : List Entry) : Type 0 where
  pub before : List Entry
  pub journal_is : journal ≡ before ++ entry.Begun plan.parent plan.subs ∷ later
  pub place_is : length before ≡ place

-- A bucket's journal has the beginning of the split, not among the entries that were seen before, so many, and the next that begins or
-- ends a split says that this one was switched.
abbrev pub IsSwitchedIn : SplitPlan → ℕ → List Entry → Type 0
IsSwitchedIn plan seen journal = (place : ℕ) × (later : List Entry) × BeginsAt plan journal place later × (seen ≤ place)
    × (find is_of_split later ≡ Some (entry.Switched plan.parent))

-- where the journal has the beginning of the split, not among those entries, the next that begins or ends a split says that it failed
abbrev pub IsFailedIfBegun : SplitPlan → ℕ → List Entry → Type 0
IsFailedIfBegun plan seen journal = (place : ℕ) (later : List Entry) → BeginsAt plan journal place later → seen ≤ place
    → find is_of_split later ≡ Some (entry.Failed plan.parent)

-- what a split leaves in the buckets: one that did not begin leaves them as they were, one that was given up failed wherever it began, and
-- one that was done was switched in each
abbrev pub LeavesBuckets : ℕ → Course → Seen → Seen → Type 0
LeavesBuckets buckets refused old new = (lock : ℕ) → new.journals lock ≡ old.journals lock
LeavesBuckets buckets (given_up plan recovered started) old new =
    (lock : ℕ) → lock < buckets → IsFailedIfBegun plan (length (old.journals lock)) (new.journals lock)
LeavesBuckets buckets (done plan answers) old new =
    (lock : ℕ) → lock < buckets → IsSwitchedIn plan (length (old.journals lock)) (new.journals lock)

-- What a split leaves on the board: the entries that it notes there, which are one's own, come last of what is seen, from its stop on.
pub record LeavesBoard (layout : Layout) (first : Stop) (course : Course) (old new : Seen) : Type 0 where
  pub before : List BoardEntry
  pub begins : IsPrefix old.board before
  pub place : length before ≡ first.place
  pub board_is : new.board ≡ before ++ noted_by course
  pub own : new.own layout.buckets ≡ old.own layout.buckets ++ range_with_len first.place (length (noted_by course))

-- What a split leaves outside: one that did not begin all as it was, one that was given up the cores from before and those of its own that
-- failed to stop, and one that was done those from before and its own.
abbrev pub LeavesOutside : ℕ → Course → Outside → Outside → Type 0
LeavesOutside nodes refused old new = new ≡ old
LeavesOutside nodes (given_up plan recovered started) old new = LeavesCores nodes plan started old new
LeavesOutside nodes (done plan answers) old new = StartsCoresOfPlan nodes plan old new

-- the name is that of the plan's core at this place
abbrev pub IsNameOfCore : (nodes : ℕ) → SplitPlan → (place : ℕ) → List ℕ → Type 0
IsNameOfCore nodes plan place name = (host : Host) × (slice_get (cores_of nodes plan) place ≡ Some host) × (name ≡ host.core)

-- A bucket's journal had no room for the split, no earlier than what was seen of it before, while no split was open in it.
pub record HadNoRoom (layout : Layout) (plan : SplitPlan) (old new : Seen) (lock : ℕ) : Type 0 where
  pub is_bucket : lock < layout.buckets
  pub journal : List Entry
  pub seen : IsPrefix journal (new.journals lock)
  pub later : length (old.journals lock) ≤ length journal
  pub idle : open_split journal ≡ None
  pub full : IsFullFor (entries_of_split plan.subs) layout.limit layout.first journal

-- why a split was given up that had begun, once so many of its cores were started: it is answered so only then; the core that failed is
-- the next
abbrev pub IsCause : Layout → SplitPlan → (started : ℕ) → SplitMoment → SplitMoment → SplitEnd → Type 0
IsCause layout plan started old new ends.LogFull = (lock : ℕ) × HadNoRoom layout plan old.view.seen new.view.seen lock
IsCause layout plan started old new (ends.HostFault core) = IsNameOfCore layout.nodes plan started core × (old.outside.start_faults < new.outside.start_faults)
IsCause layout plan started old new ends.Stopped = old.outside.stops < new.outside.stops
IsCause layout plan started old new ends.Memory = ⊤
IsCause layout plan started old new _ = ⊥

-- the cause of the answer to a split that went so, where it was given up
abbrev pub HasCause : Layout → Course → SplitMoment → SplitMoment → SplitEnd → Type 0
HasCause layout (given_up plan recovered started) old new end = IsCause layout plan started old new end
HasCause layout _ old new end = ⊤

-- the answer to a split that the board refused
abbrev pub refusal : BoardFault → SplitEnd
refusal faults.UnknownShard = ends.UnknownShard
refusal (faults.Running shard) = ends.Running shard
refusal (faults.NotActive state) = ends.NotActive state
refusal faults.RangeTooSmall = ends.RangeTooSmall
refusal faults.BadRanges = ends.BadRanges
refusal faults.TooManySlices = ends.TooManySlices
refusal faults.LogFull = ends.LogFull
refusal faults.Memory = ends.Memory

-- A split began at its stop of the board, by this plan of what was asked there.
pub record BeginsOnBoard (layout : Layout) (seen : Seen) (asked : AskedSplit) (first : Stop) (plan : SplitPlan) : Type 0 where
  pub lock : first.lock ≡ layout.buckets
  pub made : first.made ≡ true
  pub made_is : slice_get seen.board first.place ≡ Some (board.Begun plan)
  pub plan_is : IsPlanOf layout.first (take first.place seen.board) asked plan

-- the board refused a split at its stop, for what is so there
pub record IsRefusedOnBoard (layout : Layout) (seen : Seen) (asked : AskedSplit) (first : Stop) (end : SplitEnd) : Type 0 where
  pub lock : first.lock ≡ layout.buckets
  pub made : first.made ≡ false
  pub fault : BoardFault
  pub end_is : end ≡ refusal fault
  pub cause : IsRefusal layout.first layout.limit (take first.place seen.board) asked fault

-- a split that went so is answered so, by its stop of the board and by its commits
abbrev pub IsAnswered : Layout → Seen → AskedSplit → Stop → Course → SplitEnd → Type 0
IsAnswered layout seen asked first refused end = IsRefusedOnBoard layout seen asked first end
IsAnswered layout seen asked first (given_up plan recovered started) end = BeginsOnBoard layout seen asked first plan
IsAnswered layout seen asked first (done plan answers) end =
    BeginsOnBoard layout seen asked first plan × AnswersCommits layout seen layout.buckets answers
    × (end ≡ ends.Done (map (λ (sub : SubSlice). sub.name) plan.subs) (commits_told (worst answers)))

-- What a split leaves, and what it is answered: by its stop of the board, which is the first, and by how it went from there.
pub record IsSplit (layout : Layout) (asked : AskedSplit) (old new : SplitMoment) (end : SplitEnd) : Type 0 where
  pub first : Stop
  pub course : Course
  pub kept : new.view.stops ≡ old.view.stops ++ split_stops first course
  pub extends : Extends layout old.view.seen new.view.seen (split_stops first course)
  pub last : EndAtLast layout new.view.seen (split_stops first course)
  pub answered : FromNowOn new.view.seen (λ later. IsAnswered layout later asked first course end)
  pub cause : HasCause layout course old new end
  pub board : LeavesBoard layout first course old.view.seen new.view.seen
  pub buckets : LeavesBuckets layout.buckets course old.view.seen new.view.seen
  pub outside : LeavesOutside layout.nodes course old.outside new.outside
  pub counts : CountsGoUp old.outside new.outside
  pub no_reach : new.outside.reach ≡ old.outside.reach
