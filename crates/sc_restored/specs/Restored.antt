-- What a bucket is that was made of its journal.
use Rattle.std.specs.Prelude.{◌≡◌, ◌≤◌, ◌⊎◌, ℕ, ◌+◌, pos, List, [], ◌++◌, length, map, filter, if◌then◌else◌, Some, None, All, Contains, true, false}
use Rattle.std.specs.Arc.{arc_value}
use Rattle.std.specs.Int.{int_max}
use Rattle.sc_record.specs.Writes.{Write, AscendById}
use Rattle.sc_record.specs.declared.slice.CoreId.{CoreId}
use Rattle.sc_record.specs.declared.entry.Entry.{Entry}
use Rattle.sc_snapshot.specs.Rows.{is_within}
use Rattle.sc_cluster.specs.declared.slice.Slice.{Slice}
use Rattle.sc_ulog.specs.declared.mode.Mode.TheVariants.{Active}
use Rattle.sc_replica.specs.Cells.{applied}
use Rattle.sc_replica.specs.Core.{Core}
use Rattle.sc_replicas.specs.Cores.{core_key, core_keys, slice_keys, IsCounted, IsCoreWithoutRoom}
use Rattle.sc_replicas.specs.Searchers.{standing_rows}
use Rattle.sc_replicas.specs.declared.standing.Standing.{Standing}
use Rattle.sc_journal.specs.Legal.{IsLegal}
use Rattle.sc_journal.specs.Limits.{least_journal, greatest_journal}
use Rattle.sc_journal.specs.Splits.{open_split, owed}
use Rattle.sc_bucket.specs.Searchers.{AreOfEachSlice}
use Rattle.sc_bucket.specs.Sound.{AreActive, IsMarked, OfEachCore, HasLastWrites, IsSound}
use Rattle.sc_bucket.specs.Taking.{AreLastOf}
use Rattle.sc_bucket.specs.declared.bucket.Bucket.{Bucket}
use Rattle.sc_bucket.specs.declared.phase.Phase.TheVariants as phases

-- A bucket may be made of the journal: it begins with active slices alone, is legal, leaves no split open, and has room in the limit for
-- what it owes.
pub record MayRestore (slices : List Slice) (most : ℕ) (journal : List Entry) : Type 0 where
  pub begins : AreActive slices
  pub legal : IsLegal slices journal
  pub ended : open_split journal ≡ None
  pub within : length journal + owed slices journal ≤ most
  pub limit_from : least_journal ≤ most
  pub limit_to : most ≤ greatest_journal

-- a core without what writes change of it, and without room
abbrev pub emptied : Core → Core
emptied core = record core { cells = []; clock = pos 0; cell_spare = 0; buffer_spare = 0 }

-- the write was applied to the core, and nothing else but room was changed
pub record Puts (write : Write) (old new : Core) : Type 0 where
  pub cells : new.cells ≡ applied old.cells write
  pub clock : new.clock ≡ int_max old.clock write.version
  pub rest : emptied new ≡ emptied old

-- the core's cells are these writes, its clock is the old one or the version of one of them, and nothing else but room was changed
pub record Fills (writes : List Write) (old new : Core) : Type 0 where
  pub cells : new.cells ≡ writes
  pub clock : (new.clock ≡ old.clock) ⊎ Contains (map (λ (write : Write). write.version) writes) new.clock
  pub rest : emptied new ≡ emptied old

-- The core sits in this seat and is active, with the mark and the number that the entries give it. Where it is not down it has these cells;
-- where it is, none.
pub record IsFilled (seat : CoreId) (entries : List Entry) (cells : List Write) (core : Core) : Type 0 where
  pub seat_is : core.core ≡ seat
  pub counted : IsCounted core
  pub active : core.mode ≡ Active
  pub buffer : core.buffer ≡ []
  pub marked : IsMarked entries core
  pub cells_are : core.cells ≡ (if core.down then [] else cells)
  pub clock : (core.clock ≡ pos 0) ⊎ Contains (map (λ (write : Write). write.version) cells) core.clock
  pub in_order : IsCoreWithoutRoom core

-- the core is one of the slice, filled with the last of these writes of each id of the slice's range
pub record IsRestoredCore (slice : Slice) (entries : List Entry) (these : List Write) (core : Core) : Type 0 where
  pub of_slice : core.core.slice ≡ slice.id
  pub cells : List Write
  pub ascend : AscendById cells
  pub last : AreLastOf (filter (is_within slice.range) these) cells
  pub filled : IsFilled core.core entries cells core

-- the cores are the old ones and, after them, those of the slice, each as it is restored of these writes
pub record AddsCores (slice : Slice) (entries : List Entry) (these : List Write) (old new : List Core) : Type 0 where
  pub more : List Core
  pub added : new ≡ old ++ more
  pub keys : map core_key more ≡ slice_keys slice
  pub each : All (IsRestoredCore slice entries these) more

-- the cores are those of the slices, in their order, each as it is restored of these writes
pub record AreRestored (slices : List Slice) (entries : List Entry) (these : List Write) (cores : List Core) : Type 0 where
  pub keys : map core_key cores ≡ core_keys slices
  pub each : All (λ (core : Core). (slice : Slice) × Contains slices slice × IsRestoredCore slice entries these core) cores

-- the searcher is that of the slice, was taken at this place, and shows the last of these writes of each id of the slice's range
pub record IsShownBy (place : ℕ) (these : List Write) (slice : Slice) (searcher : Standing) : Type 0 where
  pub of_slice : searcher.slice ≡ slice.id
  pub range_is : searcher.range ≡ slice.range
  pub place_is : (arc_value searcher.snapshot).place ≡ place
  pub ascend : AscendById (standing_rows searcher)
  pub last : AreLastOf (filter (is_within slice.range) these) (standing_rows searcher)

-- each active slice has its searcher
pub record AreShown (slices : List Slice) (place : ℕ) (these : List Write) (searchers : List Standing) : Type 0 where
  pub each_slice : AreOfEachSlice slices searchers
  pub each : All (λ (searcher : Standing). (slice : Slice) × Contains slices slice × IsShownBy place these slice searcher) searchers

-- The bucket has this journal, of which no log file has an entry yet, so that no write of it was let go. Nothing is on its way, no split is
-- open, and each core is active. A core that is down has no cells; each other has of each id of its slice's range the last write, also
-- where the slice is inactive.
pub record IsRestored (slices : List Slice) (most : ℕ) (journal : List Entry) (bucket : Bucket) : Type 0 where
  pub sound : IsSound bucket
  pub first : bucket.first ≡ slices
  pub journal_is : bucket.journal.entries ≡ journal
  pub filed : bucket.journal.filed ≡ Some 0
  pub limit : bucket.limit ≡ most
  pub phase : bucket.phase ≡ phases.Idle
  pub feeds : bucket.feeds ≡ []
  pub messages : bucket.flight.messages ≡ []
  pub active : All (λ (core : Core). core.mode ≡ Active) bucket.replicas
  pub down : All (λ (core : Core). core.down ≡ true → core.cells ≡ []) bucket.replicas
  pub last : OfEachCore bucket (λ (slice : Slice) (core : Core). core.down ≡ false → HasLastWrites journal slice core)
