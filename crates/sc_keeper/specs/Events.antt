-- What each of the keeper's events makes of a bucket's part, and that all else of the part stays.
use Rattle.std.specs.Prelude.{◌≡◌, ℕ, ◌+◌, ◌-◌, Bool, nat_lt, nat_le, if◌then◌else◌, List, [], ◌∷◌, ◌++◌, map, filter, slice_get, slice_set, Some}
use Rattle.std.specs.List.{remove}
use Rattle.sc_record.specs.declared.slice.SliceId.{SliceId}
use Rattle.sc_record.specs.declared.slice.SubSlice.{SubSlice}
use Rattle.sc_record.specs.declared.slice.CoreId.{CoreId}
use Rattle.sc_record.specs.declared.entry.Entry.{Entry}
use Rattle.sc_record.specs.declared.entry.Entry.TheVariants as entry
use Rattle.sc_cluster.specs.Changes.{Change, after}
use Rattle.sc_ulog.specs.declared.mode.Mode.TheVariants.{Active, Buffering, Replaying}
use Rattle.sc_replica.specs.Core.{replay_limit}
use Rattle.sc_replicas.specs.Cores.{core_number, is_of_one}
use Rattle.sc_bucket.specs.declared.phase.Phase.{Phase}
use Rattle.sc_bucket.specs.declared.phase.Phase.TheVariants as phases
use Rattle.sc_handover.specs.Made.{leader_of, first_core, feed_limit}
use Rattle.sc_keeper.specs.declared.part.CorePart.{CorePart}
use Rattle.sc_keeper.specs.declared.part.FeedPart.{FeedPart}
use Rattle.sc_keeper.specs.declared.part.Part.{Part}

-- a core as it is made: it buffers what comes, and has nothing to replay
abbrev pub made_core : CoreId → CorePart
made_core name = record { name = name; number = name.replica; mode = Buffering; left = 0 }

-- a feed of so many rows, from the first of them on
abbrev pub made_feed : ℕ → CoreId → FeedPart
made_feed rows name = record { core = name; next = 0; rows = rows }

-- A split begins: the subs join the map, each with its leader, which buffers what comes and is fed, all from the same rows.
pub record PartBegins (old : Part) (parent : SliceId) (subs : List SubSlice) (new : Part) : Type 0 where
  pub map_is : new.map ≡ after old.map (Change.Begun parent subs)
  pub phase_is : new.phase ≡ phases.Building parent
  pub cores_are : new.cores ≡ old.cores ++ map (λ sub. made_core (first_core sub)) subs
  pub rows : ℕ
  pub feeds_are : new.feeds ≡ map (λ sub. made_feed rows (first_core sub)) subs
  pub entries_are : new.entries ≡ old.entries ++ entry.Begun parent subs ∷ []

-- nothing was changed but cores and feeds
pub record KeepsPartRest (old new : Part) : Type 0 where
  pub map_is : new.map ≡ old.map
  pub phase_is : new.phase ≡ old.phase
  pub entries_are : new.entries ≡ old.entries

-- The core of this name is fed a piece: its feed looked at 64 rows more, or is gone where no more were left.
pub record PartFeeds (old : Part) (name : CoreId) (is_done : Bool) (new : Part) : Type 0 where
  pub rest : KeepsPartRest old new
  pub cores_are : new.cores ≡ old.cores
  pub feed_at : ℕ
  pub feed : FeedPart
  pub feed_found : slice_get old.feeds feed_at ≡ Some feed
  pub feed_is : feed.core ≡ name
  pub done : is_done ≡ nat_le feed.rows (feed.next + feed_limit)
  pub feeds_are : new.feeds ≡ (if is_done then remove old.feeds feed_at
      else slice_set old.feeds feed_at (record feed { next = feed.next + feed_limit }))

-- the core of this name is made into this one, and each other stays
pub record ChangesPartCore (old : Part) (name : CoreId) (change : CorePart → CorePart) (new : Part) : Type 0 where
  pub core_at : ℕ
  pub core : CorePart
  pub core_found : slice_get old.cores core_at ≡ Some core
  pub core_is : core.name ≡ name
  pub cores_are : new.cores ≡ slice_set old.cores core_at (change core)

-- the core of this name begins to replay what it holds
pub record PartStartsReplay (old : Part) (name : CoreId) (new : Part) : Type 0 where
  pub rest : KeepsPartRest old new
  pub feeds_are : new.feeds ≡ old.feeds
  pub left : ℕ
  pub changed : ChangesPartCore old name (λ core. record core { mode = Replaying; left = left }) new

-- a core once a piece of 64 writes was replayed: it is active where that was the last one, and has 64 fewer to replay where not
abbrev pub replayed_part : Bool → CorePart → CorePart
replayed_part is_done core =
    if is_done then record core { mode = Active; left = 0 } else record core { left = core.left - replay_limit }

-- the core of this name replays a piece, which is the last one exactly where no more than 64 writes were left
pub record PartReplays (old : Part) (name : CoreId) (is_done : Bool) (new : Part) : Type 0 where
  pub rest : KeepsPartRest old new
  pub feeds_are : new.feeds ≡ old.feeds
  pub changed : ChangesPartCore old name (replayed_part is_done) new
  pub replaying : changed.core.mode ≡ Replaying
  pub done : is_done ≡ nat_le changed.core.left replay_limit

-- the leaders of the subs are made
pub record PartGetsReady (old : Part) (parent : SliceId) (new : Part) : Type 0 where
  pub map_is : new.map ≡ old.map
  pub phase_is : new.phase ≡ phases.Recovering parent
  pub cores_are : new.cores ≡ old.cores
  pub feeds_are : new.feeds ≡ old.feeds
  pub entries_are : new.entries ≡ old.entries

-- the cores with one more, before the first whose name comes later
abbrev pub put_part_by_name : CorePart → List CorePart → List CorePart
put_part_by_name core [] = core ∷ []
put_part_by_name core (other ∷ cores) =
    if nat_lt (core_number core.name) (core_number other.name) then core ∷ other ∷ cores
    else other ∷ put_part_by_name core cores

-- a further replica of a sub joins: it buffers what comes, stands in its place among the cores, and its feed comes last
pub record PartGrows (old : Part) (name : CoreId) (new : Part) : Type 0 where
  pub rest : KeepsPartRest old new
  pub cores_are : new.cores ≡ put_part_by_name (made_core name) old.cores
  pub rows : ℕ
  pub feeds_are : new.feeds ≡ old.feeds ++ made_feed rows name ∷ []

-- the split is switched: the subs take the parent's place
pub record PartSwitches (old : Part) (parent : SliceId) (new : Part) : Type 0 where
  pub map_is : new.map ≡ after old.map (Change.Switched parent)
  pub phase_is : new.phase ≡ phases.Idle
  pub cores_are : new.cores ≡ old.cores
  pub feeds_are : new.feeds ≡ []
  pub entries_are : new.entries ≡ old.entries ++ entry.Switched parent ∷ []

-- slices leave the map by this change, with their cores, and the entries are one more; the phase and the feeds are these then
pub record PartLosesSlices (old : Part) (change : Change) (one : Entry) (phase : Phase) (feeds : List FeedPart) (new : Part) : Type 0 where
  pub map_is : new.map ≡ after old.map change
  pub phase_is : new.phase ≡ phase
  pub cores_are : new.cores ≡ filter (λ (core : CorePart). is_of_one new.map core.name) old.cores
  pub feeds_are : new.feeds ≡ feeds
  pub entries_are : new.entries ≡ old.entries ++ one ∷ []

-- the split is given up: the subs leave the map, no split is open, and nothing is fed
abbrev pub PartAborts : Part → SliceId → Part → Type 0
PartAborts old parent new = PartLosesSlices old (Change.Failed parent) (entry.Failed parent) phases.Idle [] new

-- an inactive slice leaves the map
abbrev pub PartDrops : Part → SliceId → Part → Type 0
PartDrops old slice new = PartLosesSlices old (Change.Dropped slice) (entry.Dropped slice) old.phase old.feeds new

-- The core of this name rejoins: it is a new one with its number, buffers what comes, and its feed comes last.
pub record PartRejoins (old : Part) (name : CoreId) (new : Part) : Type 0 where
  pub map_is : new.map ≡ old.map
  pub phase_is : new.phase ≡ old.phase
  pub changed : ChangesPartCore old name (λ core. record (made_core name) { number = core.number }) new
  pub rows : ℕ
  pub feeds_are : new.feeds ≡ old.feeds ++ made_feed rows name ∷ []
  pub entries_are : new.entries ≡ old.entries ++ entry.Up name ∷ []

-- The core in the seat of this name takes the lead: the numbers of the two seats change places, and all else of them stays.
pub record PartLeads (old : Part) (name : CoreId) (new : Part) : Type 0 where
  pub map_is : new.map ≡ old.map
  pub phase_is : new.phase ≡ old.phase
  pub leader_at : ℕ
  pub leader : CorePart
  pub leader_found : slice_get old.cores leader_at ≡ Some leader
  pub leader_is : leader.name ≡ leader_of name.slice
  pub core_at : ℕ
  pub core : CorePart
  pub core_found : slice_get old.cores core_at ≡ Some core
  pub core_is : core.name ≡ name
  pub cores_are : new.cores
      ≡ slice_set (slice_set old.cores leader_at (record leader { number = core.number })) core_at (record core { number = leader.number })
  pub feeds_are : new.feeds ≡ old.feeds
  pub entries_are : new.entries ≡ old.entries ++ entry.Led name ∷ []
