-- What is looked at for the conditions of events.
use Rattle.std.specs.Prelude.{◌≡◌, ℕ, ◌<◌, ◌≤◌, Bool, true, false, Result, Err, All, Contains}
use Rattle.sc_record.specs.declared.slice.SliceId.{SliceId}
use Rattle.sc_record.specs.declared.slice.CoreId.{CoreId}
use Rattle.sc_cluster.specs.declared.slice.Slice.{Slice}
use Rattle.sc_cluster.specs.Slices.{is_forming}
use Rattle.sc_replica.specs.Core.{Core}
use Rattle.sc_record.specs.Names.{is_core}
use Rattle.sc_replicas.specs.Cores.{slice_keys}
use Rattle.sc_bucket.specs.declared.bucket.Bucket.{Bucket}
use Rattle.sc_bucket.specs.declared.accept.Accepted.{Accepted}
use Rattle.sc_bucket.specs.declared.accept.AcceptFault.{AcceptFault}
use Rattle.sc_bucket.specs.declared.accept.AcceptFault.TheVariants as faults
use Rattle.sc_bucket.specs.declared.phase.Phase.TheVariants as phases
use Rattle.sc_ulog.specs.declared.mode.Mode.TheVariants.{Active}
use Rattle.sc_journal.specs.Down.{IsFollower}
use Rattle.sc_handover.specs.Conditions.{IsInMode, IsUnfed, IsThereActive}

-- the leaders of the subs of a split are being made
abbrev pub IsBuilding : Bucket → Type 0
IsBuilding b = (parent : SliceId) × (b.phase ≡ phases.Building parent)

-- they are made
abbrev pub IsRecovering : Bucket → Type 0
IsRecovering b = (parent : SliceId) × (b.phase ≡ phases.Recovering parent)

-- where a split is making the slice its leader is there, and active
abbrev pub IsLedActively : Bucket → Slice → Type 0
IsLedActively b slice = is_forming slice ≡ true → IsThereActive b (slice.id.0, 1)

-- where a split is making the slice each of its replicas is there, and active
abbrev pub IsWholeSlice : Bucket → Slice → Type 0
IsWholeSlice b slice = is_forming slice ≡ true → All (IsThereActive b) (slice_keys slice)

-- a split is making the slice, which is to have this replica beside its leader
abbrev pub MayJoin : Slice → ℕ → Type 0
MayJoin slice replica = (is_forming slice ≡ true) × (1 < replica) × (replica ≤ slice.replicas)

-- the core is a further replica of this sub, and is not there
pub record IsMissing (b : Bucket) (name : CoreId) (sub : Slice) : Type 0 where
  pub there : Contains b.map sub
  pub of_sub : name.slice ≡ sub.id
  pub joins : MayJoin sub name.replica
  pub missing : All (λ (core : Core). is_core name core.core ≡ false) b.replicas

-- the core is a follower of an active slice, is active, and has no feed
pub record IsActiveFollower (b : Bucket) (name : CoreId) : Type 0 where
  pub follower : IsFollower b.map name
  pub active : IsInMode b name Active
  pub unfed : IsUnfed b name

-- so is it, and no split is open
abbrev pub IsCaughtUp : Bucket → CoreId → Type 0
IsCaughtUp b name = (b.phase ≡ phases.Idle) × IsActiveFollower b name

-- an order was answered that memory ran out
abbrev pub lacks_memory : Result Accepted AcceptFault → Bool
lacks_memory (Err faults.Memory) = true
lacks_memory _ = false
