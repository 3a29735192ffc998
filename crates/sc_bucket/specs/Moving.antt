-- Where nothing was written since the last commit.
use Rattle.std.specs.Prelude.{◌≡◌, [], All}
use Rattle.sc_bucket.specs.Entries.{uncommitted}
use Rattle.sc_replicas.specs.Searchers.{HasOwnRows}
use Rattle.sc_bucket.specs.declared.bucket.Bucket.{Bucket}
use Rattle.sc_bucket.specs.declared.phase.Phase.TheVariants as phases

-- all that was written is committed, no split is open, and each searcher has rows of its own range alone
pub record IsUnchanged (b : Bucket) : Type 0 where
  pub written : uncommitted b.journal.entries ≡ []
  pub idle : b.phase ≡ phases.Idle
  pub own : All HasOwnRows b.searchers
