-- When each event of a split, and each that changes which cores serve, may come to a bucket.
use Rattle.std.specs.Prelude.{◌≡◌, ◌≤◌, ◌<◌, ℕ, List, [], Option, Some, None, true, false, All, Contains}
use Rattle.sc_record.specs.declared.slice.SliceId.{SliceId}
use Rattle.sc_record.specs.declared.slice.SubSlice.{SubSlice}
use Rattle.sc_record.specs.declared.slice.CoreId.{CoreId}
use Rattle.sc_cluster.specs.declared.slice.Slice.{Slice}
use Rattle.sc_cluster.specs.Slices.{is_forming}
use Rattle.sc_cluster.specs.Plans.{IsPlan}
use Rattle.sc_cluster.specs.Changes.{IsInactive}
use Rattle.sc_ulog.specs.declared.mode.Mode.{Mode}
use Rattle.sc_ulog.specs.declared.mode.Mode.TheVariants.{Active, Buffering, Replaying}
use Rattle.sc_replica.specs.Core.{Core}
use Rattle.sc_bucket.specs.Kept.{FeedState}
use Rattle.sc_record.specs.Names.{is_core, key_of_core}
use Rattle.sc_journal.specs.Down.{is_down, IsFollower}
use Rattle.sc_replicas.specs.Cores.{core_key, slice_keys}
use Rattle.sc_bucket.specs.Pending.{is_feed_of}
use Rattle.sc_bucket.specs.Sound.{AreLedActively}
use Rattle.sc_bucket.specs.declared.bucket.Bucket.{Bucket}
use Rattle.sc_bucket.specs.declared.phase.Phase.{Phase}
use Rattle.sc_bucket.specs.declared.phase.Phase.TheVariants as phases

-- the slice whose split is open in this phase
abbrev pub split_of : Phase → Option SliceId
split_of phases.Idle = None
split_of (phases.Building parent) = Some parent
split_of (phases.Recovering parent) = Some parent

-- the core of this name is there, in this mode
abbrev pub IsInMode : Bucket → CoreId → Mode → Type 0
IsInMode b name mode = (core : Core) × Contains b.replicas core × (core.core ≡ name) × (core.mode ≡ mode)

-- the core of this name has no feed
abbrev pub IsUnfed : Bucket → CoreId → Type 0
IsUnfed b name = All (λ (feed : FeedState). is_feed_of name feed ≡ false) b.feeds

-- begin: no split is open, the map allows this one, and each core is active and has no feed
pub record CanBegin (b : Bucket) (parent : SliceId) (subs : List SubSlice) : Type 0 where
  pub idle : b.phase ≡ phases.Idle
  pub plan : IsPlan b.map parent subs
  pub active : All (λ (core : Core). core.mode ≡ Active) b.replicas
  pub unfed : b.feeds ≡ []

-- feed_piece: the core has a feed
abbrev pub CanFeed : Bucket → CoreId → Type 0
CanFeed b name = (feed : FeedState) × Contains b.feeds feed × (feed.core ≡ name)

-- start_replay: the core buffers, and has no feed
abbrev pub CanStartReplay : Bucket → CoreId → Type 0
CanStartReplay b name = IsInMode b name Buffering × IsUnfed b name

-- replay_piece: the core replays
abbrev pub CanReplay : Bucket → CoreId → Type 0
CanReplay b name = IsInMode b name Replaying

-- ready: the leaders of the subs are being made, and each is active
abbrev pub CanBeReady : Bucket → SliceId → Type 0
CanBeReady b parent = (b.phase ≡ phases.Building parent) × AreLedActively b

-- grow: the leaders of the subs are made, and the core is a further replica of this sub, which isn't there
pub record CanGrow (b : Bucket) (name : CoreId) (sub : Slice) : Type 0 where
  pub parent : SliceId
  pub recovering : b.phase ≡ phases.Recovering parent
  pub there : Contains b.map sub
  pub forming : is_forming sub ≡ true
  pub of_sub : name.slice ≡ sub.id
  pub above : 1 < name.replica
  pub planned : name.replica ≤ sub.replicas
  pub missing : All (λ (core : Core). is_core name core.core ≡ false) b.replicas

-- a core with this slice and replica is there, and active
abbrev pub IsThereActive : Bucket → ℕ × ℕ → Type 0
IsThereActive b key = (core : Core) × Contains b.replicas core × (core_key core ≡ key) × (core.mode ≡ Active)

-- switch: every replica of every sub is there, and active
pub record CanSwitch (b : Bucket) (parent : SliceId) : Type 0 where
  pub recovering : b.phase ≡ phases.Recovering parent
  pub whole : All (λ (sub : Slice). is_forming sub ≡ true → All (IsThereActive b) (slice_keys sub)) b.map

-- abort: a split is open
abbrev pub CanAbort : Bucket → SliceId → Type 0
CanAbort b parent = split_of b.phase ≡ Some parent

-- drop_shard: no split is open, and the slice is inactive
abbrev pub CanDrop : Bucket → SliceId → Type 0
CanDrop b slice = (b.phase ≡ phases.Idle) × IsInactive b.map slice

-- rejoin: no split is open, and the core is a follower of an active slice that is down, is active, and has no feed
pub record CanRejoin (b : Bucket) (name : CoreId) : Type 0 where
  pub idle : b.phase ≡ phases.Idle
  pub follower : IsFollower b.map name
  pub down : is_down b.journal.entries (key_of_core name) ≡ true
  pub active : IsInMode b name Active
  pub unfed : IsUnfed b name

-- take_lead: no split is open, and the core is a follower of an active slice that is not down, is active, and has no feed
pub record CanLead (b : Bucket) (name : CoreId) : Type 0 where
  pub idle : b.phase ≡ phases.Idle
  pub follower : IsFollower b.map name
  pub up : is_down b.journal.entries (key_of_core name) ≡ false
  pub active : IsInMode b name Active
  pub unfed : IsUnfed b name
