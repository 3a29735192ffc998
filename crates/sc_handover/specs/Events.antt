-- What each event of a split changes, and that all else stays.
use Rattle.std.specs.Prelude.{◌≡◌, ℕ, ◌+◌, Bool, true, nat_le, not, if◌then◌else◌, List, [], ◌∷◌, ◌++◌, length, map, filter, slice_get, slice_set, Some, Contains}
use Rattle.std.specs.List.{remove}
use Rattle.sc_record.specs.declared.slice.SliceId.{SliceId}
use Rattle.sc_record.specs.declared.slice.SubSlice.{SubSlice}
use Rattle.sc_record.specs.declared.slice.CoreId.{CoreId}
use Rattle.sc_record.specs.declared.entry.Entry.{Entry}
use Rattle.sc_record.specs.declared.entry.Entry.TheVariants as entry
use Rattle.sc_cluster.specs.declared.slice.Slice.{Slice}
use Rattle.sc_cluster.specs.Slices.{forming}
use Rattle.sc_cluster.specs.Changes.{Change, after}
use Rattle.sc_replica.specs.Core.{Core, fed_all, replayed}
use Rattle.sc_replica.specs.Deliveries.{replaying}
use Rattle.sc_journal.specs.Splits.{entries_of_split}
use Rattle.sc_bucket.specs.Kept.{Sent, FeedState}
use Rattle.sc_replicas.specs.Cores.{IsLeaderOf, is_of_one, put_by_name}
use Rattle.sc_bucket.specs.Flight.{is_to, arrived}
use Rattle.sc_bucket.specs.Searchers.{AreTaken, AreHandedOn}
use Rattle.sc_bucket.specs.Room.{BucketHasRoom}
use Rattle.sc_bucket.specs.Sound.{HasLastWrites}
use Rattle.sc_bucket.specs.Events.{AreSameCores, HasSameFixedParts}
use Rattle.sc_bucket.specs.declared.bucket.Bucket.{Bucket}
use Rattle.sc_bucket.specs.declared.phase.Phase.{Phase}
use Rattle.sc_bucket.specs.declared.phase.Phase.TheVariants as phases
use Rattle.sc_bucket.specs.Pending.{new_feed}
use Rattle.sc_handover.specs.Made.{first_core, empty_core, cells_now, first_feed, feed_limit, piece_of, moved_on, settled_sub}

-- A split begins, which commits: each active slice has a searcher of its leader's cells as they are. The subs join the map, each with
-- its leader, which buffers what comes and has no cells, and is fed from the parent's cells as they are. The journal has room for the
-- entry that says so and for all that it owes then.
pub record Begins (old : Bucket) (parent : SliceId) (subs : List SubSlice) (new : Bucket) : Type 0 where
  pub name : HasSameFixedParts old new
  pub room : BucketHasRoom (entries_of_split subs) old
  pub map_is : new.map ≡ after old.map (Change.Begun parent subs)
  pub entries : new.journal.entries ≡ old.journal.entries ++ entry.Begun parent subs ∷ []
  pub phase_is : new.phase ≡ phases.Building parent
  pub messages : new.flight.messages ≡ old.flight.messages
  pub cores : AreSameCores (old.replicas ++ map (λ sub. empty_core (first_core sub)) subs) new.replicas
  pub leader : Core
  pub leader_there : Contains old.replicas leader
  pub leader_is : IsLeaderOf parent leader
  pub feeds_are : new.feeds ≡ map (first_feed (cells_now old leader)) subs
  pub searchers_are : AreTaken old.map old.replicas (length old.journal.entries) new.searchers

-- nothing was changed but cores and feeds
pub record HasSameRest (old new : Bucket) : Type 0 where
  pub name : HasSameFixedParts old new
  pub map_is : new.map ≡ old.map
  pub entries : new.journal.entries ≡ old.journal.entries
  pub phase_is : new.phase ≡ old.phase
  pub messages : new.flight.messages ≡ old.flight.messages
  pub searchers_are : new.searchers ≡ old.searchers

-- the core of this name becomes what the change makes of it, and each other stays
pub record ChangesCore (old : Bucket) (name : CoreId) (change : Core → Core) (new : Bucket) : Type 0 where
  pub core_at : ℕ
  pub core : Core
  pub core_found : slice_get old.replicas core_at ≡ Some core
  pub core_is : core.core ≡ name
  pub cores : new.replicas ≡ slice_set old.replicas core_at (change core)

-- The core of this name is fed a piece: the next 64 rows of its snapshot are looked at, or all that are left where they are fewer.
-- With no row left its feed is gone.
pub record FeedsPiece (old : Bucket) (name : CoreId) (is_done : Bool) (new : Bucket) : Type 0 where
  pub rest : HasSameRest old new
  pub feed_at : ℕ
  pub feed : FeedState
  pub feed_found : slice_get old.feeds feed_at ≡ Some feed
  pub feed_is : feed.core ≡ name
  pub changed : ChangesCore old name (λ core. fed_all core (piece_of feed)) new
  pub done : is_done ≡ nat_le (length feed.rows) (feed.next + feed_limit)
  pub feeds_are : new.feeds ≡ (if is_done then remove old.feeds feed_at else slice_set old.feeds feed_at (moved_on feed))

-- the core of this name begins to replay
pub record StartsReplay (old : Bucket) (name : CoreId) (new : Bucket) : Type 0 where
  pub rest : HasSameRest old new
  pub feeds_are : new.feeds ≡ old.feeds
  pub changed : ChangesCore old name replaying new

-- The core of this name replays a piece: it applies the first 64 writes of its buffer, or all where they are fewer. With none left it is
-- active.
pub record ReplaysPiece (old : Bucket) (name : CoreId) (is_done : Bool) (new : Bucket) : Type 0 where
  pub rest : HasSameRest old new
  pub feeds_are : new.feeds ≡ old.feeds
  pub changed : ChangesCore old name replayed new
  pub done : (is_done ≡ true → (replayed changed.core).buffer ≡ []) × ((replayed changed.core).buffer ≡ [] → is_done ≡ true)

-- the leaders of the subs are made
pub record GetsReady (old : Bucket) (parent : SliceId) (new : Bucket) : Type 0 where
  pub name : HasSameFixedParts old new
  pub map_is : new.map ≡ old.map
  pub entries : new.journal.entries ≡ old.journal.entries
  pub phase_is : new.phase ≡ phases.Recovering parent
  pub messages : new.flight.messages ≡ old.flight.messages
  pub cores : new.replicas ≡ old.replicas
  pub feeds_are : new.feeds ≡ old.feeds
  pub searchers_are : new.searchers ≡ old.searchers

-- A further replica of a sub joins: what is in flight to the sub's leader is delivered, and the new core buffers what comes, has no
-- cells, and is fed from the leader's cells as they are then.
pub record Grows (old : Bucket) (name : CoreId) (sub : Slice) (new : Bucket) : Type 0 where
  pub kept : HasSameFixedParts old new
  pub map_is : new.map ≡ old.map
  pub entries : new.journal.entries ≡ old.journal.entries
  pub phase_is : new.phase ≡ old.phase
  pub searchers_are : new.searchers ≡ old.searchers
  pub leader : Core
  pub leader_there : Contains (map (arrived old.flight.messages leader.core) old.replicas) leader
  pub leader_is : IsLeaderOf sub.id leader
  pub messages : new.flight.messages ≡ filter (λ (message : Sent). not (is_to leader.core message)) old.flight.messages
  pub cores : AreSameCores (put_by_name (empty_core name) (map (arrived old.flight.messages leader.core) old.replicas)) new.replicas
  pub feeds_are : new.feeds ≡ old.feeds ++ new_feed name sub.range (cells_now old leader) ∷ []

-- The split is switched: what is in flight to the subs' cores is delivered, the subs take the parent's place, and each has the parent's
-- searcher, cut to its range. No cell changes but by those messages.
pub record Switches (old : Bucket) (parent : SliceId) (new : Bucket) : Type 0 where
  pub name : HasSameFixedParts old new
  pub map_is : new.map ≡ after old.map (Change.Switched parent)
  pub entries : new.journal.entries ≡ old.journal.entries ++ entry.Switched parent ∷ []
  pub phase_is : new.phase ≡ phases.Idle
  pub messages : new.flight.messages ≡ filter (λ (message : Sent). not (is_of_one (forming old.map) message.core)) old.flight.messages
  pub cores : new.replicas ≡ map (settled_sub old.map old.flight.messages) old.replicas
  pub feeds_are : new.feeds ≡ []
  pub searchers_are : AreHandedOn old.map parent old.searchers new.searchers

-- each core of a sub has the last write of each id of the sub's range
abbrev pub HaveLastWrites : Bucket → List Slice → Type 0
HaveLastWrites b subs = (sub : Slice) (core : Core) → Contains subs sub → Contains b.replicas core → core.core.slice ≡ sub.id
    → HasLastWrites b.journal.entries sub core

-- Slices leave the map by this change, with their cores and the messages to them, and the journal gets this entry. The phase and the
-- feeds are these then, and all else is as it was.
pub record LosesSlices (old : Bucket) (change : Change) (one : Entry) (phase : Phase) (feeds : List FeedState) (new : Bucket) : Type 0 where
  pub name : HasSameFixedParts old new
  pub map_is : new.map ≡ after old.map change
  pub entries : new.journal.entries ≡ old.journal.entries ++ one ∷ []
  pub phase_is : new.phase ≡ phase
  pub messages : new.flight.messages ≡ filter (λ (message : Sent). is_of_one new.map message.core) old.flight.messages
  pub cores : new.replicas ≡ filter (λ (core : Core). is_of_one new.map core.core) old.replicas
  pub feeds_are : new.feeds ≡ feeds
  pub searchers_are : new.searchers ≡ old.searchers

-- the split is given up: the subs leave the map, no split is open, and nothing is fed
abbrev pub Aborts : Bucket → SliceId → Bucket → Type 0
Aborts old parent new = LosesSlices old (Change.Failed parent) (entry.Failed parent) phases.Idle [] new

-- an inactive slice leaves the map
abbrev pub Drops : Bucket → SliceId → Bucket → Type 0
Drops old slice new = LosesSlices old (Change.Dropped slice) (entry.Dropped slice) old.phase old.feeds new
