-- What a new bucket is.
use Rattle.std.specs.Prelude.{◌≡◌, ℕ, List, [], None, All}
use Rattle.sc_cluster.specs.declared.slice.Slice.{Slice}
use Rattle.sc_replicas.specs.Cores.{IsNewCore}
use Rattle.sc_bucket.specs.Sound.{IsSound}
use Rattle.sc_bucket.specs.declared.bucket.Bucket.{Bucket}
use Rattle.sc_bucket.specs.declared.phase.Phase.TheVariants as phases

-- The bucket begins with this map: its journal is empty, asks no log file and may have so many entries, its cores are new, no split is
-- open, and no core is fed.
pub record IsNewBucket (slices : List Slice) (most : ℕ) (bucket : Bucket) : Type 0 where
  pub sound : IsSound bucket
  pub first : bucket.first ≡ slices
  pub map_is : bucket.map ≡ slices
  pub journal : bucket.journal.entries ≡ []
  pub filed : bucket.journal.filed ≡ None
  pub limit : bucket.limit ≡ most
  pub cores : All IsNewCore bucket.replicas
  pub phase : bucket.phase ≡ phases.Idle
  pub feeds : bucket.feeds ≡ []
