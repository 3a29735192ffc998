-- What the commit of each bucket over a desk leaves.
use Rattle.std.specs.Prelude.{◌≡◌, ℕ, List, [], ◌∷◌, Option, Some, None}
use Rattle.sc_seen.specs.Seen.{Layout, FromNowOn}
use Rattle.sc_seen.specs.Moments.{View, Keeps}
use Rattle.sc_seen.specs.Commits.{CommitOutcome, committed_now, commit_full, commit_out_of_memory, IsCommitOutcome, CommitAnswer, AnswersCommits, commit_stops, worst}
use Rattle.sc_seen.specs.declared.stop.Stop.{Stop}
use Rattle.sc_bucket.specs.declared.commit.CommitFault.{CommitFault}
use Rattle.sc_bucket.specs.declared.commit.CommitFault.TheVariants as commit_faults
use Rattle.sc_collection.specs.declared.commits.Commits.{Commits}
use Rattle.sc_collection.specs.declared.commits.Commits.TheVariants as commits

-- what a commit came to
abbrev pub commit_outcome : Option CommitFault → CommitOutcome
commit_outcome None = committed_now
commit_outcome (Some commit_faults.LogFull) = commit_full
commit_outcome (Some commit_faults.Memory) = commit_out_of_memory

-- what the commits came to together, as it is told
abbrev pub commits_told : CommitOutcome → Commits
commits_told committed_now = commits.All
commits_told commit_full = commits.LogFull
commits_told commit_out_of_memory = commits.Memory

-- The first buckets, so many of them, were committed in turn, and the worst that came of it is this.
pub record CommitsAll (layout : Layout) (count : ℕ) (old new : View) (fault : Option CommitFault) : Type 0 where
  pub answers : List CommitAnswer
  pub keeps : Keeps layout old new (commit_stops answers)
  pub answered : FromNowOn new.seen (λ later. AnswersCommits layout later count answers)
  pub worst_is : worst answers ≡ commit_outcome fault

-- One bucket was committed at its stop, or that was refused.
pub record CommitsOne (layout : Layout) (old new : View) (lock : ℕ) (fault : Option CommitFault) : Type 0 where
  pub stop : Stop
  pub lock_is : stop.lock ≡ lock
  pub keeps : Keeps layout old new (stop ∷ [])
  pub answered : FromNowOn new.seen (λ later. IsCommitOutcome layout later stop (commit_outcome fault))
