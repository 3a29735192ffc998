-- What the parts of `switch`, of `grow`, of `rejoin` and of `take_lead` do.
use Rattle.std.specs.Prelude.{◌≡◌, ◌<◌, ◌++◌, ◌∷◌, [], ℕ, Bool, false, true, not, List, map, filter, slice_get, slice_set, Some, All, Contains}
use Rattle.sc_record.specs.declared.slice.SliceId.{SliceId}
use Rattle.sc_record.specs.declared.slice.CoreId.{CoreId}
use Rattle.sc_record.specs.declared.entry.Entry.TheVariants as entry
use Rattle.sc_cluster.specs.declared.slice.Slice.{Slice}
use Rattle.sc_cluster.specs.Slices.{forming}
use Rattle.sc_cluster.specs.Changes.{Change, after}
use Rattle.sc_ulog.specs.LogState.{IsEmptyWhereActive}
use Rattle.sc_replica.specs.Core.{Core}
use Rattle.sc_bucket.specs.Kept.{Sent, FeedState}
use Rattle.sc_replicas.specs.Cores.{IsCounted, IsLeaderOf, is_of_one, put_by_name, seated, without_room}
use Rattle.sc_bucket.specs.Flight.{is_to}
use Rattle.sc_bucket.specs.Searchers.{AreHandedOn}
use Rattle.sc_bucket.specs.Sound.{HasLastWrites}
use Rattle.sc_bucket.specs.Events.{AreSameCores, HasSameFixedParts, HasSameSplit}
use Rattle.sc_bucket.specs.declared.bucket.Bucket.{Bucket}
use Rattle.sc_bucket.specs.declared.phase.Phase.TheVariants as phases
use Rattle.sc_bucket.specs.Pending.{new_feed}
use Rattle.sc_handover.specs.Made.{empty_core, cells_now, settled_sub, IsRoomyFor}
use Rattle.sc_handover.specs.Seats.{IsCoreAt}

-- the core is of a slice that a split is making
abbrev pub is_of_sub : List Slice → CoreId → Bool
is_of_sub slices core = is_of_one (forming slices) core

-- an active core has an empty buffer
abbrev pub IsQuiet : Core → Type 0
IsQuiet core = IsEmptyWhereActive core.mode core.buffer

-- all that is in flight to the cores of the subs is delivered
pub record DeliversToSubs (old new : Bucket) : Type 0 where
  pub name : HasSameFixedParts old new
  pub split : HasSameSplit old new
  pub map_is : new.map ≡ old.map
  pub entries : new.journal.entries ≡ old.journal.entries
  pub messages : new.flight.messages ≡ filter (λ (message : Sent). not (is_of_sub old.map message.core)) old.flight.messages
  pub cores : new.replicas ≡ map (settled_sub old.map old.flight.messages) old.replicas
  pub searchers_are : new.searchers ≡ old.searchers

-- no message in flight is to a core of a sub
abbrev pub NoneIsToASub : Bucket → Type 0
NoneIsToASub b = All (λ (message : Sent). is_of_sub b.map message.core ≡ false) b.flight.messages

-- the subs are put in the place of their parent, once nothing is in flight to their cores
pub record PutsSwitch (old : Bucket) (parent : SliceId) (new : Bucket) : Type 0 where
  pub name : HasSameFixedParts old new
  pub map_is : new.map ≡ after old.map (Change.Switched parent)
  pub entries : new.journal.entries ≡ old.journal.entries ++ entry.Switched parent ∷ []
  pub phase_is : new.phase ≡ phases.Idle
  pub flight_is : new.flight ≡ old.flight
  pub cores : new.replicas ≡ old.replicas
  pub feeds_are : new.feeds ≡ []
  pub searchers_are : AreHandedOn old.map parent old.searchers new.searchers

-- a core of this name may be fed from the slice's leader: it is a further replica of the slice, and the leader has the last writes
pub record CanFollow (b : Bucket) (name : CoreId) (slice : Slice) : Type 0 where
  pub there : Contains b.map slice
  pub of_slice : name.slice ≡ slice.id
  pub above : 1 < name.replica
  pub led : (leader : Core) → Contains b.replicas leader → IsLeaderOf slice.id leader → HasLastWrites b.journal.entries slice leader

-- The core and its feed are made for a further replica of the slice: it has no cells, it buffers what comes, and it is to be fed the
-- cells of the slice's leader, which has the last writes.
pub record IsMade (b : Bucket) (name : CoreId) (slice : Slice) (core : Core) (feed : FeedState) : Type 0 where
  pub core_is : without_room core ≡ empty_core name
  pub counted : IsCounted core
  pub leader : Core
  pub leader_there : Contains b.replicas leader
  pub leader_is : IsLeaderOf slice.id leader
  pub last : HasLastWrites b.journal.entries slice leader
  pub feed_is : feed ≡ new_feed name slice.range (cells_now b leader)
  pub roomy : IsRoomyFor feed core

-- the core and its feed join: it stands in its place among the others, and its feed comes last
pub record Joins (old : Bucket) (name : CoreId) (feed : FeedState) (new : Bucket) : Type 0 where
  pub kept : HasSameFixedParts old new
  pub map_is : new.map ≡ old.map
  pub entries : new.journal.entries ≡ old.journal.entries
  pub phase_is : new.phase ≡ old.phase
  pub flight_is : new.flight ≡ old.flight
  pub cores : AreSameCores (put_by_name (empty_core name) old.replicas) new.replicas
  pub feeds_are : new.feeds ≡ old.feeds ++ feed ∷ []
  pub searchers_are : new.searchers ≡ old.searchers

-- The core in the seat of this name and the one that leads change seats, once nothing is in flight to the first: its seat is down
-- then, and what was in flight to the seat that leads leaves the flight.
pub record ChangesSeats (old : Bucket) (name : CoreId) (new : Bucket) : Type 0 where
  pub kept : HasSameFixedParts old new
  pub split : HasSameSplit old new
  pub map_is : new.map ≡ old.map
  pub entries : new.journal.entries ≡ old.journal.entries ++ entry.Led name ∷ []
  pub leader_at : ℕ
  pub leader : Core
  pub leader_found : slice_get old.replicas leader_at ≡ Some leader
  pub leader_is : IsLeaderOf name.slice leader
  pub at : ℕ
  pub core : Core
  pub core_at : IsCoreAt old name at core
  pub cores : new.replicas ≡ slice_set (slice_set old.replicas leader_at (seated leader.core false core)) at (seated name true leader)
  pub messages : new.flight.messages ≡ filter (λ (message : Sent). not (is_to leader.core message)) old.flight.messages
  pub searchers_are : new.searchers ≡ old.searchers
