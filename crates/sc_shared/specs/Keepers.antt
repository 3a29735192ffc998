-- What the keepers of all buckets keep.
use Rattle.std.specs.Prelude.{◌≡◌, ℕ, List, [], ◌∷◌, length, slice_get, Option, Some, None}
use Rattle.std.specs.Option.{unwrap_or}
use Rattle.sc_record.specs.declared.entry.Entry.{Entry}
use Rattle.sc_bucket.specs.declared.phase.Phase.TheVariants as phases
use Rattle.sc_keeper.specs.declared.part.Part.{Part}
use Rattle.sc_lock.specs.declared.keeper.Keeper.{Keeper}
use Rattle.sc_lock.specs.Tokens.{LockId, IsKeeperOf, IsFreeKeeper, keeper_seen, keeper_places, keeper_part}
use Rattle.sc_collection.specs.Desks.{Keeping}
use Rattle.sc_shared.specs.declared.numbered.Numbered.{Numbered}

-- the keeper of one bucket
abbrev pub BucketKeeper : Type 0
BucketKeeper = Keeper Numbered Entry Part

-- an entry before others, if there is one
abbrev pub with_entry : {E : Type 0} → Option E → List E → List E
with_entry None entries = entries
with_entry (Some entry) entries = entry ∷ entries

-- the entries of a journal at these places
abbrev pub entries_at_places : {E : Type 0} → List E → List ℕ → List E
entries_at_places journal [] = []
entries_at_places journal (place ∷ places) = with_entry (slice_get journal place) (entries_at_places journal places)

-- the part of a bucket of which there is nothing
abbrev pub no_part : Part
no_part = record { map = []; phase = phases.Idle; cores = []; feeds = []; entries = [] }

-- the part that this keeper left
abbrev pub part_of_keeper : Option BucketKeeper → Option Part
part_of_keeper None = None
part_of_keeper (Some keeper) = keeper_part keeper

-- the entries that this keeper made
abbrev pub own_of_keeper : Option BucketKeeper → List Entry
own_of_keeper None = []
own_of_keeper (Some keeper) = entries_at_places (keeper_seen keeper) (keeper_places keeper)

-- the part that the keeper of this number left
abbrev pub part_at : List BucketKeeper → ℕ → Option Part
part_at keepers number = part_of_keeper (slice_get keepers number)

-- the entries that the keeper of this number made
abbrev pub own_at : List BucketKeeper → ℕ → List Entry
own_at keepers number = own_of_keeper (slice_get keepers number)

-- what they keep
abbrev pub keeping_of : List BucketKeeper → Keeping
keeping_of keepers = record { part = λ number. unwrap_or (part_at keepers number) no_part; own = λ number. own_at keepers number }

-- which lock each bucket has, by its number
abbrev pub BucketLocks : Type 0
BucketLocks = List (LockId Numbered)

-- each is the keeper of the bucket of its number, and no turn of it is out
pub record AreKeepers (locks : BucketLocks) (keepers : List BucketKeeper) : Type 0 where
  pub count : length keepers ≡ length locks
  pub each : (number : ℕ) (lock : LockId Numbered) (keeper : BucketKeeper) → slice_get locks number ≡ Some lock
      → slice_get keepers number ≡ Some keeper → IsKeeperOf lock keeper
  pub free : (number : ℕ) (keeper : BucketKeeper) → slice_get keepers number ≡ Some keeper → IsFreeKeeper keeper
