-- How a split changes a map of slices: the step that each entry of a journal stands for.
use Rattle.std.specs.Prelude.{◌≡◌, ◌==◌, not, if◌then◌else◌, List, [], ◌++◌, map, filter, All, Contains}
use Rattle.sc_record.specs.declared.slice.SliceId.{SliceId}
use Rattle.sc_record.specs.declared.slice.SubSlice.{SubSlice}
use Rattle.sc_cluster.specs.declared.slice.State.{State}
use Rattle.sc_cluster.specs.declared.slice.State.TheVariants as states
use Rattle.sc_cluster.specs.declared.slice.Slice.{Slice}
use Rattle.sc_cluster.specs.Slices.{is_forming, forming}
use Rattle.sc_cluster.specs.Map.{IsSplitting}
use Rattle.sc_cluster.specs.Plans.{IsPlan}

-- what may happen to a map
pub data Change : Type 0 where
  Begun : (parent : SliceId) (subs : List SubSlice) → Change
  Recovering : (parent : SliceId) → Change
  Switched : (parent : SliceId) → Change
  Failed : (parent : SliceId) → Change
  Dropped : (slice : SliceId) → Change

-- a sub as a slice under construction
abbrev pub begun_slice : SubSlice → Slice
begun_slice sub = record {
  id = sub.id;
  name = sub.name;
  range = record { min = sub.min; max = sub.max; ordered = sub.ordered };
  state = states.Construction;
  replicas = sub.replicas;
  node = sub.node;
  replicated = sub.replicated;
  placed = sub.placed;
}

-- the slice in another state
abbrev pub in_state : State → Slice → Slice
in_state state slice = record slice { state = state }

-- the slice once its split goes on from construction to recovery
abbrev pub recovering_slice : Slice → Slice
recovering_slice slice = if is_forming slice then in_state states.Recovery slice else slice

-- the slice once the parent's subs have taken its place
abbrev pub switched_slice : SliceId → Slice → Slice
switched_slice parent slice =
    if is_forming slice then in_state states.Active slice
    else if slice.id.0 == parent.0 then in_state states.Inactive slice
    else slice

-- the map after a change
abbrev pub after : List Slice → Change → List Slice
after slices (Change.Begun parent subs) = slices ++ map begun_slice subs
after slices (Change.Recovering parent) = map recovering_slice slices
after slices (Change.Switched parent) = map (switched_slice parent) slices
after slices (Change.Failed parent) = filter (λ slice. not (is_forming slice)) slices
after slices (Change.Dropped dropped) = filter (λ (slice : Slice). not (slice.id.0 == dropped.0)) slices

-- a split of the slice with this id is open
abbrev pub IsBeingSplit : List Slice → SliceId → Type 0
IsBeingSplit slices parent = (slice : Slice) × (slice.id ≡ parent) × IsSplitting slices slice

-- the slice with this id is inactive
abbrev pub IsInactive : List Slice → SliceId → Type 0
IsInactive slices dropped = (slice : Slice) × Contains slices slice × (slice.id ≡ dropped) × (slice.state ≡ states.Inactive)

-- the change may happen to the map
abbrev pub MayChange : List Slice → Change → Type 0
MayChange slices (Change.Begun parent subs) = IsPlan slices parent subs
MayChange slices (Change.Recovering parent) =
    IsBeingSplit slices parent × All (λ (slice : Slice). slice.state ≡ states.Construction) (forming slices)
MayChange slices (Change.Switched parent) = IsBeingSplit slices parent
MayChange slices (Change.Failed parent) = IsBeingSplit slices parent
MayChange slices (Change.Dropped dropped) = (forming slices ≡ []) × IsInactive slices dropped
