-- What the lock of a bucket keeps: the bucket and its number.
use Rattle.std.specs.Prelude.{◌≡◌, ℕ, List}
use Rattle.std.specs.List.{AllByRecursion}
use Rattle.sc_record.specs.Writes.{Write}
use Rattle.sc_router.specs.Route.{bucket_of}
use Rattle.sc_cluster.specs.declared.slice.Slice.{Slice}
use Rattle.sc_journal.specs.Journal.{writes}
use Rattle.sc_bucket.specs.Sound.{IsSound}
use Rattle.sc_handover.specs.AnyEvent.{IsEvent}
use Rattle.sc_shared.specs.declared.numbered.Numbered.{Numbered}

-- what no event changes of a bucket: its number, how many buckets there are, the map with which it began, and its limit
pub record BucketName : Type 0 where
  pub number : ℕ
  pub buckets : ℕ
  pub first : List Slice
  pub limit : ℕ

-- the name of a bucket with its number
abbrev pub name_of : Numbered → BucketName
name_of kept = record { number = kept.number; buckets = kept.buckets; first = kept.bucket.first; limit = kept.bucket.limit }

-- the bucket is sound, and the ids of its writes belong to the bucket of its number
pub record IsSoundNumbered (kept : Numbered) : Type 0 where
  pub sound : IsSound kept.bucket
  pub ids : AllByRecursion (λ (write : Write). bucket_of write.id kept.buckets ≡ kept.number) (writes kept.bucket.journal.entries)

-- the second comes from the first by one event of a bucket at most, and has its name
pub record Follows (old new : Numbered) : Type 0 where
  pub event : IsEvent old.bucket new.bucket
  pub name : name_of old ≡ name_of new
