-- What is true of a bucket before and after each of its events.
use Rattle.std.specs.Prelude.{◌≡◌, ◌≤◌, ◌⊎◌, ℕ, ◌+◌, Some, None, Bool, ◌&&◌, ◌||◌, nat_eq, List, [], ◌++◌, length, map, filter, not, true, false, IsTrue, All, Contains}
use Rattle.std.specs.List.{IsDistinct}
use Rattle.std.specs.Arc.{arc_value}
use Rattle.sc_record.specs.Writes.{write_of, Write}
use Rattle.sc_record.specs.declared.slice.SliceId.{SliceId}
use Rattle.sc_record.specs.declared.slice.CoreId.{CoreId}
use Rattle.sc_record.specs.declared.entry.Entry.{Entry}
use Rattle.sc_hash.specs.Range.{IsWithin}
use Rattle.sc_router.specs.Route.{route_hash}
use Rattle.sc_cluster.specs.declared.slice.State.TheVariants as states
use Rattle.sc_cluster.specs.declared.slice.Slice.{Slice}
use Rattle.sc_cluster.specs.Map.{IsMap}
use Rattle.sc_cluster.specs.Slices.{is_active, is_forming, forming}
use Rattle.sc_cluster.specs.Changes.{IsBeingSplit}
use Rattle.sc_ulog.specs.declared.mode.Mode.TheVariants.{Active, Buffering}
use Rattle.sc_replica.specs.Core.{Core}
use Rattle.sc_journal.specs.Journal.{writes, write_at, last_write, is_settled, unsettled}
use Rattle.sc_journal.specs.Limits.{least_journal, greatest_journal}
use Rattle.sc_journal.specs.Down.{is_down}
use Rattle.sc_journal.specs.Seats.{seats}
use Rattle.sc_journal.specs.Splits.{map_after, open_split, owed}
use Rattle.sc_journal.specs.Legal.{IsLegal}
use Rattle.sc_journal.specs.Outcomes.{IsClock}
use Rattle.sc_journal.specs.Committed.{last_commit}
use Rattle.sc_bucket.specs.Kept.{Sent, FeedState}
use Rattle.sc_record.specs.Names.{is_core, key_of_core}
use Rattle.sc_replicas.specs.Cores.{core_key, core_keys, slice_keys, is_attached, CoresAscend, IsCounted, IsCoreWithoutRoom}
use Rattle.sc_replicas.specs.Searchers.{standing_rows}
use Rattle.sc_bucket.specs.Searchers.{AreOfEachSlice, ShowsCommitted, ArePrepared}
use Rattle.sc_bucket.specs.Flight.{in_flight, is_same_message}
use Rattle.sc_bucket.specs.Pending.{pending}
use Rattle.sc_bucket.specs.declared.bucket.Bucket.{Bucket}
use Rattle.sc_bucket.specs.declared.phase.Phase.{Phase}
use Rattle.sc_bucket.specs.declared.phase.Phase.TheVariants as phases
use Rattle.sc_replicas.specs.declared.standing.Standing.{Standing}

-- every slice is active
abbrev pub AreActive : List Slice → Type 0
AreActive slices = All (λ (slice : Slice). slice.state ≡ states.Active) slices

-- A bucket's journal is legal, and its map is the one after it. What it owes is counted, and has its room: with it the journal
-- stays within its limit.
pub record HasJournal (b : Bucket) : Type 0 where
  pub first : IsMap b.first
  pub begins : AreActive b.first
  pub legal : IsLegal b.first b.journal.entries
  pub map_is : b.map ≡ map_after b.first b.journal.entries
  pub unsettled_are : b.unsettled.places ≡ unsettled b.journal.entries
  pub owed_is : b.owed ≡ owed b.first b.journal.entries
  pub room : b.owed ≤ b.journal.room
  pub within : length b.journal.entries + b.owed ≤ b.limit
  pub limit_from : least_journal ≤ b.limit
  pub limit_to : b.limit ≤ greatest_journal

-- it is true of each core and its slice
abbrev pub OfEachCore : Bucket → (Slice → Core → Type 0) → Type 0
OfEachCore b P = All (λ (core : Core). (slice : Slice) → Contains b.map slice → slice.id ≡ core.core.slice → P slice core) b.replicas

-- of each id whose hash is in the slice's range the core has the last write
abbrev pub HasLastWrites : List Entry → Slice → Core → Type 0
HasLastWrites journal slice core = (id : List ℕ) → IsWithin slice.range.min slice.range.max (route_hash id)
    → write_of core.cells id ≡ last_write journal id

-- the leader of an active slice applies what comes, and has the last writes
abbrev pub Serves : List Entry → Slice → Core → Type 0
Serves journal slice core = slice.state ≡ states.Active → core.core.replica ≡ 1
    → (core.mode ≡ Active) × HasLastWrites journal slice core

-- each cell of a core and each write that is pending for it is a write of the journal
abbrev pub AreWritten : List Entry → List Sent → List FeedState → Core → Type 0
AreWritten journal messages feeds core =
    All (Contains (writes journal)) core.cells × All (Contains (writes journal)) (pending messages feeds core)

-- of each id whose hash is in the range of its slice an attached core has the last write, or it is pending for it, unless the id
-- was never written
abbrev pub HasOrAwaits : List Entry → List Sent → List FeedState → Slice → Core → Type 0
HasOrAwaits journal messages feeds slice core = IsTrue (is_attached slice core) → (id : List ℕ) (write : Write)
    → IsWithin slice.range.min slice.range.max (route_hash id) → last_write journal id ≡ Some write
    → (write_of core.cells id ≡ Some write) ⊎ Contains (pending messages feeds core) write

-- the write's hash is in the slice's range
abbrev pub IsInRange : Slice → Write → Type 0
IsInRange slice write = IsWithin slice.range.min slice.range.max write.hash

-- no cell, and no write that is pending, has a hash outside the slice's range
abbrev pub AreInRange : List Sent → List FeedState → Slice → Core → Type 0
AreInRange messages feeds slice core = All (IsInRange slice) core.cells × All (IsInRange slice) (pending messages feeds core)

-- Each active slice has a searcher, in the order of the map, and no other has one. It has the slice's range, shows what was
-- committed there, and was taken at the last entry that commits; the first ones at the journal's begin.
pub record HasSearchers (b : Bucket) : Type 0 where
  pub each_slice : AreOfEachSlice b.map b.searchers
  pub show : All (λ (searcher : Standing). (slice : Slice) → Contains b.map slice → slice.id ≡ searcher.slice
      → (searcher.range ≡ slice.range) × ShowsCommitted b.journal.entries slice (standing_rows searcher)) b.searchers
  pub place : All (λ (searcher : Standing). (arc_value searcher.snapshot).place ≡ last_commit b.journal.entries) b.searchers

-- a message in flight is of a write of the journal that is not settled, and to a core that is there and not down
pub record IsSent (b : Bucket) (message : Sent) : Type 0 where
  pub write : write_at b.journal.entries message.place ≡ Some message.write
  pub unsettled : is_settled b.journal.entries message.place ≡ false
  pub core : Contains (map (λ (core : Core). core.core) b.replicas) message.core
  pub up : is_down b.journal.entries (key_of_core message.core) ≡ false

-- each message is one, and no two are of one write to one core
pub record AreSent (b : Bucket) : Type 0 where
  pub each : All (IsSent b) b.flight.messages
  pub once : IsDistinct is_same_message b.flight.messages

-- the core has room for each write that is pending for it, wherever it is put
pub record HasSpare (messages : List Sent) (feeds : List FeedState) (core : Core) : Type 0 where
  pub cells : length (pending messages feeds core) ≤ core.cell_spare
  pub buffer : length (in_flight messages core.core) ≤ core.buffer_spare

-- what the journal says of a core: whether it is down, and which of the slice's cores sits in its seat
pub record IsMarked (journal : List Entry) (core : Core) : Type 0 where
  pub down : core.down ≡ is_down journal (core_key core)
  pub number : core.number ≡ seats journal core.core.slice core.core.replica

-- no split is open in this phase
abbrev pub is_idle : Phase → Bool
is_idle phases.Idle = true
is_idle _ = false

-- the core may still be getting what was written before: it is of a slice that a split is making, or, while no split is open, it is
-- a follower of an active slice
abbrev pub may_catch_up : Phase → Slice → CoreId → Bool
may_catch_up phase slice core = is_forming slice || (is_idle phase && is_active slice && not (nat_eq core.replica 1))

-- The cores that are there, in the order of their names: each is of a slice of the map, and each slice's leader is among them. Of a
-- slice that no split is making each replica is there. Each core that is not still catching up is active. Each has the mark and the
-- number that the journal gives it.
pub record HasCores (b : Bucket) : Type 0 where
  pub counted : All IsCounted b.replicas
  pub ascend : CoresAscend b.replicas
  pub of_map : All (Contains (core_keys b.map)) (map core_key b.replicas)
  pub leaders : All (λ (slice : Slice). Contains (map core_key b.replicas) (slice.id.0, 1)) b.map
  pub whole : All (λ (slice : Slice). is_forming slice ≡ false → All (Contains (map core_key b.replicas)) (slice_keys slice)) b.map
  pub active : OfEachCore b (λ (slice : Slice) (core : Core). may_catch_up b.phase slice core.core ≡ false → core.mode ≡ Active)
  pub marked : All (IsMarked b.journal.entries) b.replicas

-- A feed is of a core that may still be catching up and that buffers what comes, and has its slice's range.
pub record IsFeed (b : Bucket) (feed : FeedState) : Type 0 where
  pub slice : Slice
  pub there : Contains b.map slice
  pub catches_up : may_catch_up b.phase slice feed.core ≡ true
  pub of_slice : feed.core.slice ≡ slice.id
  pub range_is : feed.range ≡ slice.range
  pub core : Core
  pub core_there : Contains b.replicas core
  pub core_is : core.core ≡ feed.core
  pub buffering : core.mode ≡ Buffering
  pub within : feed.next ≤ length feed.rows

-- each feed is one, and no two are of one core
pub record AreFeeds (b : Bucket) : Type 0 where
  pub each : All (IsFeed b) b.feeds
  pub once : IsDistinct is_core (map (λ (feed : FeedState). feed.core) b.feeds)

-- no split is open
pub record IsIdle (b : Bucket) : Type 0 where
  pub idle : open_split b.journal.entries ≡ None
  pub whole : forming b.map ≡ []

-- A split of the parent is open. Its subs are in construction, and come after all other slices.
pub record IsSplitOpen (b : Bucket) (parent : SliceId) : Type 0 where
  pub begun : open_split b.journal.entries ≡ Some parent
  pub split : IsBeingSplit b.map parent
  pub constructed : All (λ (slice : Slice). slice.state ≡ states.Construction) (forming b.map)
  pub last : b.map ≡ filter (λ (slice : Slice). not (is_forming slice)) b.map ++ forming b.map

-- the leader of each slice that a split is making is active
abbrev pub AreLedActively : Bucket → Type 0
AreLedActively b = OfEachCore b (λ (slice : Slice) (core : Core). is_forming slice ≡ true → core.core.replica ≡ 1 → core.mode ≡ Active)

-- the bucket is in this phase
abbrev pub IsInPhase : Bucket → Phase → Type 0
IsInPhase b phases.Idle = IsIdle b
IsInPhase b (phases.Building parent) = IsSplitOpen b parent
IsInPhase b (phases.Recovering parent) = IsSplitOpen b parent × AreLedActively b

-- What is true of a bucket. Each part is kept by every event.
pub record IsSound (b : Bucket) : Type 0 where
  pub journal : HasJournal b
  pub leaders : OfEachCore b (Serves b.journal.entries)
  pub written : All (AreWritten b.journal.entries b.flight.messages b.feeds) b.replicas
  pub held : OfEachCore b (HasOrAwaits b.journal.entries b.flight.messages b.feeds)
  pub in_range : OfEachCore b (AreInRange b.flight.messages b.feeds)
  pub clocks : All (λ (core : Core). IsClock b.journal.entries core.clock) b.replicas
  pub in_order : All IsCoreWithoutRoom b.replicas
  pub searchers : HasSearchers b
  pub prepared : ArePrepared b.phase b.map b.searchers b.spares
  pub messages : AreSent b
  pub room : All (HasSpare b.flight.messages b.feeds) b.replicas
  pub cores : HasCores b
  pub feeds : AreFeeds b
  pub phase : IsInPhase b b.phase
