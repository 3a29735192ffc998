-- When each of the keeper's events may come to a bucket, by its part alone; for a core that rejoins or takes the lead but for whether it is down.
use Rattle.std.specs.Prelude.{◌≡◌, ◌≤◌, ◌<◌, ℕ, List, [], Some, true, false, All, Contains}
use Rattle.sc_record.specs.Names.{is_core}
use Rattle.sc_record.specs.declared.slice.SliceId.{SliceId}
use Rattle.sc_record.specs.declared.slice.SubSlice.{SubSlice}
use Rattle.sc_record.specs.declared.slice.CoreId.{CoreId}
use Rattle.sc_cluster.specs.declared.slice.Slice.{Slice}
use Rattle.sc_cluster.specs.Slices.{is_forming}
use Rattle.sc_cluster.specs.Plans.{IsPlan}
use Rattle.sc_cluster.specs.Changes.{IsInactive}
use Rattle.sc_ulog.specs.declared.mode.Mode.{Mode}
use Rattle.sc_ulog.specs.declared.mode.Mode.TheVariants.{Active, Buffering, Replaying}
use Rattle.sc_replicas.specs.Cores.{slice_keys}
use Rattle.sc_journal.specs.Down.{IsFollower}
use Rattle.sc_bucket.specs.declared.phase.Phase.TheVariants as phases
use Rattle.sc_handover.specs.Conditions.{split_of}
use Rattle.sc_keeper.specs.declared.part.CorePart.{CorePart}
use Rattle.sc_keeper.specs.declared.part.FeedPart.{FeedPart}
use Rattle.sc_keeper.specs.declared.part.Part.{Part}

-- the core of this name is there, in this mode
abbrev pub IsThereInMode : Part → CoreId → Mode → Type 0
IsThereInMode part name mode = (core : CorePart) × Contains part.cores core × (core.name ≡ name) × (core.mode ≡ mode)

-- the core of this name has no feed
abbrev pub HasNoFeed : Part → CoreId → Type 0
HasNoFeed part name = All (λ (feed : FeedPart). is_core name feed.core ≡ false) part.feeds

-- a core with this slice and replica is there, and active
abbrev pub IsActiveAt : Part → ℕ × ℕ → Type 0
IsActiveAt part key = (core : CorePart) × Contains part.cores core × ((core.name.slice.0, core.name.replica) ≡ key) × (core.mode ≡ Active)

-- begin: no split is open, the map allows this one, and each core is active and has no feed
pub record MayBegin (part : Part) (parent : SliceId) (subs : List SubSlice) : Type 0 where
  pub idle : part.phase ≡ phases.Idle
  pub plan : IsPlan part.map parent subs
  pub active : All (λ (core : CorePart). core.mode ≡ Active) part.cores
  pub unfed : part.feeds ≡ []

-- feed_piece: the core has a feed
abbrev pub MayFeed : Part → CoreId → Type 0
MayFeed part name = (feed : FeedPart) × Contains part.feeds feed × (feed.core ≡ name)

-- start_replay: the core buffers, and has no feed
abbrev pub MayStartReplay : Part → CoreId → Type 0
MayStartReplay part name = IsThereInMode part name Buffering × HasNoFeed part name

-- replay_piece: the core replays
abbrev pub MayReplay : Part → CoreId → Type 0
MayReplay part name = IsThereInMode part name Replaying

-- ready: the leaders of the subs are being made, and each is there and active
pub record MayBeReady (part : Part) (parent : SliceId) : Type 0 where
  pub building : part.phase ≡ phases.Building parent
  pub led : All (λ (sub : Slice). is_forming sub ≡ true → IsActiveAt part (sub.id.0, 1)) part.map

-- grow: the leaders of the subs are made, and the core is a further replica of this sub, which isn't there
pub record MayGrow (part : Part) (name : CoreId) (sub : Slice) : Type 0 where
  pub parent : SliceId
  pub recovering : part.phase ≡ phases.Recovering parent
  pub there : Contains part.map sub
  pub forming : is_forming sub ≡ true
  pub of_sub : name.slice ≡ sub.id
  pub above : 1 < name.replica
  pub planned : name.replica ≤ sub.replicas
  pub missing : All (λ (core : CorePart). is_core name core.name ≡ false) part.cores

-- switch: every replica of every sub is there, and active
pub record MaySwitch (part : Part) (parent : SliceId) : Type 0 where
  pub recovering : part.phase ≡ phases.Recovering parent
  pub whole : All (λ (sub : Slice). is_forming sub ≡ true → All (IsActiveAt part) (slice_keys sub)) part.map

-- abort: a split is open
abbrev pub MayAbort : Part → SliceId → Type 0
MayAbort part parent = split_of part.phase ≡ Some parent

-- drop_shard: no split is open, and the slice is inactive
abbrev pub MayDrop : Part → SliceId → Type 0
MayDrop part slice = (part.phase ≡ phases.Idle) × IsInactive part.map slice

-- rejoin, of a core that is down: no split is open, and the core is a follower of an active slice, is active, and has no feed
pub record MayRejoin (part : Part) (name : CoreId) : Type 0 where
  pub idle : part.phase ≡ phases.Idle
  pub follower : IsFollower part.map name
  pub active : IsThereInMode part name Active
  pub unfed : HasNoFeed part name

-- take_lead, of a core that is not down: the same
abbrev pub MayLead : Part → CoreId → Type 0
MayLead = MayRejoin
