-- What a change does to the state of each slice, and which slices are being made after it.
use Rattle.std.proofs.Common.{◌≡◌, Bool, true, false, not, cond, eqb, List, [], ◌++◌, map, refl, ap, All, ◌∙◌, append-nil}
use Rattle.std.specs.List.{filter}
use Rattle.std.proofs.lemmas.List.Elements.{All-map, filter-append, filter_agree}
use Rattle.sc_record.specs.declared.slice.SliceId.{SliceId}
use Rattle.sc_record.specs.declared.slice.SubSlice.{SubSlice}
use Rattle.sc_cluster.specs.declared.slice.State.{State}
use Rattle.sc_cluster.specs.declared.slice.State.TheVariants as states
use Rattle.sc_cluster.specs.declared.slice.Slice.{Slice}
use Rattle.sc_cluster.specs.Slices.{is_active_state, is_forming_state, is_active, is_forming, forming, slice_bounds, active_ranges}
use Rattle.sc_cluster.specs.Changes.{begun_slice, in_state, recovering_slice, switched_slice}
use Rattle.sc_cluster.proofs.ListLemmas.{filter-none, filter-all, filter-map, filter-filter, map-map_kept}

-- the slice is not being made, and it is not the one with this id
abbrev pub is_settled : Slice → Bool
is_settled slice = not (is_forming slice)

abbrev pub is_other : SliceId → Slice → Bool
is_other id slice = not (eqb slice.id.0 id.0)

-- what f gives of a slice does not depend on its state
abbrev pub IsStateless : {B : Type 0} → (Slice → B) → Type 0
IsStateless f = (state : State) (slice : Slice) → f (in_state state slice) ≡ f slice

-- a recovery and a switch keep all of a slice but its state
pub recovering_keeps : {B : Type 0} (f : Slice → B) → IsStateless f → (slice : Slice)
    → f (recovering_slice slice) ≡ f slice
recovering_keeps f stateless slice = by (is_forming slice) where
  by : (t : Bool) → f (cond t (in_state states.Recovery slice) slice) ≡ f slice
  by true = stateless states.Recovery slice
  by false = refl

pub switched_keeps : {B : Type 0} (f : Slice → B) → IsStateless f → (parent : SliceId) (slice : Slice)
    → f (switched_slice parent slice) ≡ f slice
switched_keeps f stateless parent slice = by (is_forming slice) (eqb slice.id.0 parent.0) where
  by : (t u : Bool)
      → f (cond t (in_state states.Active slice) (cond u (in_state states.Inactive slice) slice)) ≡ f slice
  by true u = stateless states.Active slice
  by false true = stateless states.Inactive slice
  by false false = refl

-- a slice that is active is not being made
pub active_settled : (slice : Slice) → slice.state ≡ states.Active → is_forming slice ≡ false
active_settled slice active = ap is_forming_state active

is_settled-active : (slice : Slice) → is_active slice ≡ true → is_settled slice ≡ true
is_settled-active slice = by slice.state where
  by : (state : State) → is_active_state state ≡ true → not (is_forming_state state) ≡ true
  by states.Active active = refl
  by states.Inactive active = refl
  by _ active = active

-- a recovery keeps which slices are active and which are being made
pub is_active-recovering : (slice : Slice) → is_active (recovering_slice slice) ≡ is_active slice
is_active-recovering slice = by slice.state refl where
  by : (state : State) → slice.state ≡ state
      → is_active (cond (is_forming_state state) (in_state states.Recovery slice) slice) ≡ is_active_state state
  by states.Active same = ap is_active_state same
  by states.Inactive same = ap is_active_state same
  by _ same = refl

pub is_forming-recovering : (slice : Slice) → is_forming (recovering_slice slice) ≡ is_forming slice
is_forming-recovering slice = by slice.state refl where
  by : (state : State) → slice.state ≡ state
      → is_forming (cond (is_forming_state state) (in_state states.Recovery slice) slice)
      ≡ is_forming_state state
  by states.Active same = ap is_forming_state same
  by states.Inactive same = ap is_forming_state same
  by _ same = refl

-- after a switch what was being made is active, and the parent is not
pub is_active-switched : (parent : SliceId) (slice : Slice) → is_active (switched_slice parent slice)
    ≡ cond (is_forming slice) true (cond (eqb slice.id.0 parent.0) false (is_active slice))
is_active-switched parent slice = by (is_forming slice) (eqb slice.id.0 parent.0) where
  by : (t u : Bool)
      → is_active (cond t (in_state states.Active slice) (cond u (in_state states.Inactive slice) slice))
      ≡ cond t true (cond u false (is_active slice))
  by true u = refl
  by false true = refl
  by false false = refl

pub is_forming-switched : (parent : SliceId) (slice : Slice) → is_forming (switched_slice parent slice) ≡ false
is_forming-switched parent slice = by (is_forming slice) (eqb slice.id.0 parent.0) refl where
  by : (t u : Bool) → is_forming slice ≡ t
      → is_forming (cond t (in_state states.Active slice) (cond u (in_state states.Inactive slice) slice))
      ≡ false
  by true u is = refl
  by false true is = refl
  by false false is = is

-- an active slice stays as it is in a recovery, and in a switch unless it is the parent
pub recovering-active : (slice : Slice) → slice.state ≡ states.Active → recovering_slice slice ≡ slice
recovering-active slice active = let settled = active_settled slice active in rw settled refl

pub switched-active : (parent : SliceId) (slice : Slice) → slice.state ≡ states.Active
    → eqb slice.id.0 parent.0 ≡ false → switched_slice parent slice ≡ slice
switched-active parent slice active other =
    let settled = active_settled slice active in rw (settled, other) refl

pub switched-forming : (parent : SliceId) (slice : Slice) → is_forming slice ≡ true
    → switched_slice parent slice ≡ in_state states.Active slice
switched-forming parent slice is = rw is refl

-- a sub is being made once its split has begun
begun_forming : (subs : List SubSlice) → All (λ slice. is_forming slice ≡ true) (map begun_slice subs)
begun_forming subs = All-map (λ slice. is_forming slice ≡ true) begun_slice subs (λ _ _ _. refl)

begun_inactive : (subs : List SubSlice) → All (λ slice. is_active slice ≡ false) (map begun_slice subs)
begun_inactive subs = All-map (λ slice. is_active slice ≡ false) begun_slice subs (λ _ _ _. refl)

-- the slices that are being made once a split has begun, and in recovery
pub forming-begun : (slices : List Slice) (subs : List SubSlice) → forming slices ≡ []
    → forming (slices ++ map begun_slice subs) ≡ map begun_slice subs
forming-begun slices subs idle =
    filter-append is_forming slices (map begun_slice subs)
    ∙ ap (λ prefix. prefix ++ forming (map begun_slice subs)) idle
    ∙ filter-all is_forming (map begun_slice subs) (begun_forming subs)

pub forming-recovering : (slices : List Slice)
    → forming (map recovering_slice slices) ≡ map recovering_slice (forming slices)
forming-recovering slices =
    let stays : Slice → Bool = λ slice. is_forming (recovering_slice slice) in
    filter-map is_forming recovering_slice slices
    ∙ ap (map recovering_slice) (filter_agree stays is_forming is_forming-recovering slices)

-- the ranges of the active slices are the same once a split has begun, goes on to recovery, or has failed
pub active_ranges-begun : (slices : List Slice) (subs : List SubSlice)
    → active_ranges (slices ++ map begun_slice subs) ≡ active_ranges slices
active_ranges-begun slices subs =
    let none = filter-none is_active (map begun_slice subs) (begun_inactive subs) in
    let kept = filter is_active slices in
    ap (map slice_bounds)
    (filter-append is_active slices (map begun_slice subs) ∙ ap (λ back. kept ++ back) none ∙ append-nil kept)

pub active_ranges-recovering : (slices : List Slice)
    → active_ranges (map recovering_slice slices) ≡ active_ranges slices
active_ranges-recovering slices =
    let stays : Slice → Bool = λ slice. is_active (recovering_slice slice) in
    let kept = ap (map recovering_slice) (filter_agree stays is_active is_active-recovering slices) in
    let bounds = recovering_keeps slice_bounds (λ _ _. refl) in
    ap (map slice_bounds) (filter-map is_active recovering_slice slices ∙ kept)
    ∙ map-map_kept slice_bounds recovering_slice bounds (filter is_active slices)

pub active_ranges-settled : (slices : List Slice)
    → active_ranges (filter is_settled slices) ≡ active_ranges slices
active_ranges-settled slices =
    ap (map slice_bounds) (filter-filter is_active is_settled is_settled-active slices)
