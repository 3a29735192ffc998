-- What the commits of a collection's buckets are answered.
use Rattle.std.specs.Prelude.{◌≡◌, ℕ, true, false, List, map, fold, slice_get, Some, All}
use Rattle.std.specs.List.{range_with_len}
use Rattle.sc_record.specs.declared.entry.Entry.TheVariants as entry
use Rattle.sc_journal.specs.Splits.{IsFullFor}
use Rattle.sc_seen.specs.Seen.{Layout, Seen, journal_at}
use Rattle.sc_seen.specs.declared.stop.Stop.{Stop}

-- what the commit of a bucket came to
pub data CommitOutcome : Type 0 where
  committed_now : CommitOutcome
  commit_full : CommitOutcome
  commit_out_of_memory : CommitOutcome

-- the commit of a bucket: its stop, and what it came to
pub record CommitAnswer : Type 0 where
  pub stop : Stop
  pub outcome : CommitOutcome

-- A bucket was committed at a stop, whose entry says so; or its journal had no room there; or memory ran out.
abbrev pub IsCommitOutcome : Layout → Seen → Stop → CommitOutcome → Type 0
IsCommitOutcome layout seen stop committed_now =
    (stop.made ≡ true) × (slice_get (seen.journals stop.lock) stop.place ≡ Some entry.Committed)
IsCommitOutcome layout seen stop commit_full =
    (stop.made ≡ false) × IsFullFor 1 layout.limit layout.first (journal_at seen stop)
IsCommitOutcome layout seen stop commit_out_of_memory = stop.made ≡ false

-- the commit came to this
abbrev pub IsCommitAnswer : Layout → Seen → CommitAnswer → Type 0
IsCommitAnswer layout seen answer = IsCommitOutcome layout seen answer.stop answer.outcome

-- the buckets from 0 on were committed in order, one stop each: so many of them
pub record AnswersCommits (layout : Layout) (seen : Seen) (count : ℕ) (answers : List CommitAnswer) : Type 0 where
  pub locks : map (λ (answer : CommitAnswer). answer.stop.lock) answers ≡ range_with_len 0 count
  pub each : All (IsCommitAnswer layout seen) answers

-- the stops of commits, in order
abbrev pub commit_stops : List CommitAnswer → List Stop
commit_stops answers = map (λ (answer : CommitAnswer). answer.stop) answers

-- what two commits came to together: want of memory counts before a journal without room
abbrev pub worse : CommitOutcome → CommitOutcome → CommitOutcome
worse commit_out_of_memory other = commit_out_of_memory
worse commit_full commit_out_of_memory = commit_out_of_memory
worse commit_full other = commit_full
worse committed_now other = other

-- what all commits came to together
abbrev pub worst : List CommitAnswer → CommitOutcome
worst answers = fold (λ (outcome : CommitOutcome) (answer : CommitAnswer). worse outcome answer.outcome) committed_now answers
