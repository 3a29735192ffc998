-- What events leave alone: those of a split the cores and the searchers of the slices that it is not about, and those that change which
-- cores serve every core but their own.
use Rattle.std.specs.Prelude.{◌≡◌, ◌≢◌, Bool, true, not, ◌||◌, List, [], ◌∷◌, map, filter}
use Rattle.sc_record.specs.Names.{is_core}
use Rattle.sc_record.specs.declared.slice.SliceId.{SliceId}
use Rattle.sc_record.specs.declared.slice.SubSlice.{SubSlice}
use Rattle.sc_record.specs.declared.slice.CoreId.{CoreId}
use Rattle.sc_cluster.specs.declared.slice.Slice.{Slice}
use Rattle.sc_cluster.specs.Slices.{forming}
use Rattle.sc_replica.specs.Core.{Core}
use Rattle.sc_replicas.specs.Cores.{is_of_one}
use Rattle.sc_bucket.specs.Events.{AreSameCores, Detaches}
use Rattle.sc_replicas.specs.Searchers.{StandingState, standing_of}
use Rattle.sc_bucket.specs.Sound.{IsSound}
use Rattle.sc_bucket.specs.declared.bucket.Bucket.{Bucket}
use Rattle.sc_bucket.specs.declared.phase.Phase.TheVariants as phases
use Rattle.sc_handover.specs.Conditions.{CanBegin, CanStartReplay, CanReplay, CanGrow}
use Rattle.sc_handover.specs.Events.{Begins, FeedsPiece, StartsReplay, ReplaysPiece, GetsReady, Grows, Switches, Aborts, Drops}
use Rattle.sc_handover.specs.Seats.{Rejoins, TakesLead}
use Rattle.sc_handover.specs.Made.{leader_of}

-- the cores that are of none of these slices
abbrev pub cores_apart : List Slice → Bucket → List Core
cores_apart slices b = filter (λ (core : Core). not (is_of_one slices core.core)) b.replicas

-- the searchers that are of none of these slices
abbrev pub searchers_apart : List Slice → Bucket → List StandingState
searchers_apart slices b =
    filter (λ (searcher : StandingState). not (is_of_one slices (leader_of searcher.slice))) (map standing_of b.searchers)

-- each core that is of none of these slices stays as it was, and so does each searcher
pub record LeavesAlone (slices : List Slice) (old new : Bucket) : Type 0 where
  pub cores : cores_apart slices new ≡ cores_apart slices old
  pub searchers : new.searchers ≡ old.searchers

-- the same, but for the room of the cores
pub record LeavesAloneButRoom (slices : List Slice) (old new : Bucket) : Type 0 where
  pub cores : AreSameCores (cores_apart slices old) (cores_apart slices new)
  pub searchers : new.searchers ≡ old.searchers

-- each core that is of none of these slices stays as it was, and so does each searcher that is neither of one of them nor of the parent
pub record LeavesAloneButParent (parent : Slice) (slices : List Slice) (old new : Bucket) : Type 0 where
  pub cores : cores_apart slices new ≡ cores_apart slices old
  pub searchers : searchers_apart (parent ∷ slices) new ≡ searchers_apart (parent ∷ slices) old

-- the cores in other seats
abbrev pub cores_but : CoreId → Bucket → List Core
cores_but name b = filter (λ (core : Core). not (is_core name core.core)) b.replicas

-- each core in another seat stays as it was, and so does each searcher
pub record LeavesAloneButCore (name : CoreId) (old new : Bucket) : Type 0 where
  pub cores : cores_but name new ≡ cores_but name old
  pub searchers : new.searchers ≡ old.searchers

-- A core that catches up leaves all others alone; and while a split is open it is of a slice that the split makes.
pub record CatchesUpAlone (name : CoreId) (old new : Bucket) : Type 0 where
  pub alone : LeavesAloneButCore name old new
  pub of_split : old.phase ≢ phases.Idle → is_of_one (forming old.map) name ≡ true

-- What each event of a split leaves alone, where it took the bucket from `old` to `new`. A split that begins commits, so that the
-- searchers are renewed then; one that is switched hands the searcher of its parent on to its subs.
pub record LeaveOthersAlone (old new : Bucket) : Type 0 where
  pub begins : (parent : SliceId) (subs : List SubSlice) → CanBegin old parent subs → Begins old parent subs new
      → AreSameCores old.replicas (cores_apart (forming new.map) new)
  pub feeds : (core : CoreId) (is_done : Bool) → FeedsPiece old core is_done new → CatchesUpAlone core old new
  pub starts : (core : CoreId) → CanStartReplay old core → StartsReplay old core new → CatchesUpAlone core old new
  pub replays : (core : CoreId) (is_done : Bool) → CanReplay old core → ReplaysPiece old core is_done new → CatchesUpAlone core old new
  pub gets_ready : (parent : SliceId) → GetsReady old parent new → LeavesAlone [] old new
  pub grows : (core : CoreId) (sub : Slice) → CanGrow old core sub → Grows old core sub new
      → LeavesAloneButRoom (forming old.map) old new
  pub switches : (parent : Slice) → Switches old parent.id new → LeavesAloneButParent parent (forming old.map) old new
  pub aborts : (parent : SliceId) → Aborts old parent new → LeavesAlone (forming old.map) old new
  pub drops : (slice : Slice) → Drops old slice.id new → LeavesAlone (slice ∷ []) old new

-- each core in another seat stays as it was but for its room, and so does each searcher
pub record LeavesAloneButCoreAndRoom (name : CoreId) (old new : Bucket) : Type 0 where
  pub cores : AreSameCores (cores_but name old) (cores_but name new)
  pub searchers : new.searchers ≡ old.searchers

-- the cores in other seats than these two
abbrev pub cores_but_both : CoreId → CoreId → Bucket → List Core
cores_but_both one other b = filter (λ (core : Core). not (is_core one core.core || is_core other core.core)) b.replicas

-- each core in another seat than these two stays as it was, and so do each searcher and what is fed
pub record LeavesAloneButBoth (one other : CoreId) (old new : Bucket) : Type 0 where
  pub cores : cores_but_both one other new ≡ cores_but_both one other old
  pub searchers : new.searchers ≡ old.searchers
  pub feeds : new.feeds ≡ old.feeds

-- on a sound bucket an event of a split leaves alone the cores and the searchers of all slices that it is not about
abbrev pub SplitsLeaveOthersAlone : Type 0
SplitsLeaveOthersAlone = (old new : Bucket) → IsSound old → LeaveOthersAlone old new

-- a core that is marked as down leaves every other core alone, and all searchers
abbrev pub DetachesLeaveOthersAlone : Type 0
DetachesLeaveOthersAlone = (old new : Bucket) (name : CoreId) → Detaches old name new → LeavesAloneButCore name old new

-- a core that rejoins leaves every other core alone, and all searchers
abbrev pub RejoinsLeaveOthersAlone : Type 0
RejoinsLeaveOthersAlone = (old new : Bucket) (name : CoreId) → Rejoins old name new → LeavesAloneButCoreAndRoom name old new

-- a core that takes the lead leaves every core alone but those of its seat and of the one that leads, all searchers, and what is fed
abbrev pub LeadsLeaveOthersAlone : Type 0
LeadsLeaveOthersAlone = (old new : Bucket) (name : CoreId) → TakesLead old name new → LeavesAloneButBoth name (leader_of name.slice) old new
