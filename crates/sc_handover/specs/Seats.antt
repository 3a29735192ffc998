-- What changes by a core that rejoins and by one that takes the lead, and that all else stays.
use Rattle.std.specs.Prelude.{◌≡◌, ◌<ℤ◌, ℕ, true, false, not, ◌||◌, List, [], ◌∷◌, ◌++◌, filter, slice_get, slice_set, Some, Contains}
use Rattle.std.specs.List.{AllByRecursion}
use Rattle.sc_hash.specs.Range.{IsWithin}
use Rattle.sc_router.specs.Route.{route_hash}
use Rattle.sc_record.specs.declared.slice.SliceId.{SliceId}
use Rattle.sc_record.specs.declared.slice.CoreId.{CoreId}
use Rattle.sc_record.specs.Writes.{Write}
use Rattle.sc_record.specs.declared.entry.Entry.TheVariants as entry
use Rattle.sc_record.specs.Versions.{version_after}
use Rattle.sc_cluster.specs.declared.slice.Slice.{Slice}
use Rattle.sc_replica.specs.Core.{Core}
use Rattle.sc_journal.specs.Journal.{writes_of}
use Rattle.sc_bucket.specs.Kept.{Sent}
use Rattle.sc_replicas.specs.Cores.{IsLeaderOf, seated}
use Rattle.sc_bucket.specs.Flight.{is_to, arrived}
use Rattle.sc_bucket.specs.Pending.{new_feed}
use Rattle.sc_bucket.specs.Room.{BucketHasRoom}
use Rattle.sc_bucket.specs.Sound.{HasLastWrites}
use Rattle.sc_bucket.specs.Events.{AreSameCores, HasSameFixedParts, HasSameSplit}
use Rattle.sc_bucket.specs.declared.bucket.Bucket.{Bucket}
use Rattle.sc_handover.specs.Made.{empty_core, cells_now}

-- at this place of the cores is that of this name
pub record IsCoreAt (b : Bucket) (name : CoreId) (at : ℕ) (core : Core) : Type 0 where
  pub found : slice_get b.replicas at ≡ Some core
  pub named : core.core ≡ name

-- The core of this name, which was down, is a new one with its number: it is not down, has no cells, buffers what comes, and is fed from
-- its leader's cells as they are. The journal has room for the entry that says so and for the one more that it owes then.
pub record Rejoins (old : Bucket) (name : CoreId) (new : Bucket) : Type 0 where
  pub kept : HasSameFixedParts old new
  pub room : BucketHasRoom 2 old
  pub map_is : new.map ≡ old.map
  pub entries : new.journal.entries ≡ old.journal.entries ++ entry.Up name ∷ []
  pub phase_is : new.phase ≡ old.phase
  pub messages : new.flight.messages ≡ old.flight.messages
  pub at : ℕ
  pub core : Core
  pub core_at : IsCoreAt old name at core
  pub cores : AreSameCores (slice_set old.replicas at (record (empty_core name) { number = core.number })) new.replicas
  pub slice : Slice
  pub slice_there : Contains old.map slice
  pub slice_is : slice.id ≡ name.slice
  pub leader : Core
  pub leader_there : Contains old.replicas leader
  pub leader_is : IsLeaderOf name.slice leader
  pub feeds_are : new.feeds ≡ old.feeds ++ new_feed name slice.range (cells_now old leader) ∷ []
  pub searchers_are : new.searchers ≡ old.searchers

-- The core in the seat of this name takes the lead: what is in flight to it is delivered, it changes seats with the core that led, and
-- that one's seat is down. What was in flight to the seat that leads leaves the flight.
pub record TakesLead (old : Bucket) (name : CoreId) (new : Bucket) : Type 0 where
  pub kept : HasSameFixedParts old new
  pub split : HasSameSplit old new
  pub map_is : new.map ≡ old.map
  pub entries : new.journal.entries ≡ old.journal.entries ++ entry.Led name ∷ []
  pub leader_at : ℕ
  pub leader : Core
  pub leader_found : slice_get old.replicas leader_at ≡ Some leader
  pub leader_is : IsLeaderOf name.slice leader
  pub at : ℕ
  pub core : Core
  pub core_at : IsCoreAt old name at core
  pub cores : new.replicas ≡ slice_set
      (slice_set old.replicas leader_at (seated leader.core false (arrived old.flight.messages name core)))
      at (seated name true leader)
  pub messages : new.flight.messages
      ≡ filter (λ (message : Sent). not (is_to name message || is_to leader.core message)) old.flight.messages
  pub searchers_are : new.searchers ≡ old.searchers

-- of each id of the slice's range the core has the last write, and the version that it would give next is above each earlier one
pub record HasLead (b : Bucket) (slice : Slice) (core : Core) : Type 0 where
  pub last : HasLastWrites b.journal.entries slice core
  pub above : (id : List ℕ) (now : ℕ) → IsWithin slice.range.min slice.range.max (route_hash id)
      → AllByRecursion (λ (earlier : Write). earlier.version <ℤ version_after now core.clock) (writes_of b.journal.entries id)

-- so has the core that leads the slice of this name
abbrev pub IsLedWhole : Bucket → SliceId → Type 0
IsLedWhole b name = (slice : Slice) (core : Core) → Contains b.map slice → slice.id ≡ name
    → Contains b.replicas core → IsLeaderOf name core → HasLead b slice core
