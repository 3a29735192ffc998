-- What the parts of `searchers_at` do.
use Rattle.std.specs.Prelude.{◌≡◌, ℕ, List, length, filter, map, All, Contains}
use Rattle.std.specs.Cmp.Lexicographic.{slice_cmp}
use Rattle.std.specs.List.Sorted.{IsSorted}
use Rattle.std.specs.Ordering.{nat_cmp}
use Rattle.sc_record.specs.Writes.{is_of, write_of, AscendById, Write}
use Rattle.sc_record.specs.declared.entry.Entry.{Entry}
use Rattle.sc_snapshot.specs.Rows.{SnapshotState, is_within}
pub use Rattle.sc_snapshot.specs.Rows.{lent}
use Rattle.sc_cluster.specs.declared.slice.State.TheVariants as states
use Rattle.sc_cluster.specs.declared.slice.Slice.{Slice}
use Rattle.sc_replica.specs.Core.{Core}
use Rattle.sc_journal.specs.Journal.{last_of}
use Rattle.sc_replicas.specs.Cores.{IsLeaderOf}
use Rattle.sc_bucket.specs.Entries.{uncommitted}
use Rattle.sc_bucket.specs.Searchers.{ShowsCommitted}
use Rattle.sc_bucket.specs.Sound.{IsInRange}
use Rattle.sc_bucket.specs.declared.bucket.Bucket.{Bucket}
use Rattle.sc_replicas.specs.declared.standing.Standing.{Standing}

-- the slice is active, and this is its searcher as it was last taken
pub record IsLastOf (b : Bucket) (slice : Slice) (last : Standing) : Type 0 where
  pub there : Contains b.map slice
  pub active : slice.state ≡ states.Active
  pub kept : Contains b.searchers last
  pub of_slice : last.slice ≡ slice.id

-- the snapshot is that of the cells of the slice's leader as they are
pub record IsOfLeader (b : Bucket) (slice : Slice) (snapshot : SnapshotState) : Type 0 where
  pub core : Core
  pub there : Contains b.replicas core
  pub leader : IsLeaderOf slice.id core
  pub snapshot_is : snapshot ≡ record { place = length b.journal.entries; rows = core.cells }

-- the slice is active; these rows show what was committed of it, and have hashes of its range alone
pub record AreCommittedOf (b : Bucket) (slice : Slice) (rows : List Write) : Type 0 where
  pub there : Contains b.map slice
  pub active : slice.state ≡ states.Active
  pub shows : ShowsCommitted b.journal.entries slice rows
  pub within : All (IsInRange slice) rows

-- of each id the last of these writes, where there is one
abbrev pub AreLastOf : (these last : List Write) → Type 0
AreLastOf these last = (id : List ℕ) → write_of last id ≡ last_of (filter (is_of id) these)

-- what a commit changes in the rows of a slice: of the writes that are not committed those of its range, of each id the last; their
-- ids ascend
pub record AreChangesOf (journal : List Entry) (slice : Slice) (changes : List Write) : Type 0 where
  pub ascend : AscendById changes
  pub last : AreLastOf (filter (is_within slice.range) (uncommitted journal)) changes

-- the ids do not descend by their bytes
abbrev pub IsSortedById : List Write → Type 0
IsSortedById writes = IsSorted (slice_cmp nat_cmp) (map (λ (write : Write). write.id) writes)
