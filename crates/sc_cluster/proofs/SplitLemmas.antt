-- The slices that an open split is making.
use Rattle.std.proofs.Common.{◌≡◌, ℕ, ◌≤◌, ℤ, ◌≤ℤ◌, Bool, true, false, cond, List, [], ◌∷◌, map, refl, sym, subst, All, Contains, Some, slice_get, arith}
use Rattle.std.proofs.lemmas.Int.{ints}
use Rattle.std.proofs.lemmas.List.Elements.{All-map, All-weaker}
use Rattle.std.proofs.lemmas.Simd.{map-map}
use Rattle.sc_record.specs.declared.slice.SubSlice.{SubSlice}
use Rattle.sc_cluster.specs.declared.slice.State.TheVariants as states
use Rattle.sc_cluster.specs.declared.slice.Slice.{Slice}
use Rattle.sc_cluster.specs.Tiles.{holders, Tiles}
use Rattle.sc_cluster.specs.Slices.{is_forming, forming, slice_bounds}
use Rattle.sc_cluster.specs.Map.{IsSubOf, IsSplitting}
use Rattle.sc_cluster.specs.Plans.{sub_bounds, IsPlanned}
use Rattle.sc_cluster.specs.Changes.{begun_slice, in_state, recovering_slice}
use Rattle.sc_cluster.proofs.ListLemmas.{map-map_kept, All-from_slice_get}
use Rattle.sc_cluster.proofs.StateLemmas.{recovering_keeps}

-- a planned sub is its parent's, once it is a slice
begun_is_sub : (parent : Slice) (greatest i : ℕ) (sub : SubSlice) → parent.id.0 ≤ greatest
    → IsPlanned parent greatest i sub → IsSubOf parent (begun_slice sub)
begun_is_sub parent greatest i sub most planned =
    record { name = (i, planned.name); later = omega arith; replicas = planned.replicas; node = planned.node }

pub begun_are_subs : (parent : Slice) (greatest : ℕ) (subs : List SubSlice) → parent.id.0 ≤ greatest
    → ((i : ℕ) (sub : SubSlice) → slice_get subs i ≡ Some sub → IsPlanned parent greatest i sub)
    → All (IsSubOf parent) (map begun_slice subs)
begun_are_subs parent greatest subs most planned =
    All-map (IsSubOf parent) begun_slice subs
    (All-from_slice_get (λ sub. IsSubOf parent (begun_slice sub)) subs
    (λ i sub at. begun_is_sub parent greatest i sub most (planned i sub at)))

-- and once it is in recovery
recovering_is_sub : (parent slice : Slice) → IsSubOf parent slice → IsSubOf parent (recovering_slice slice)
recovering_is_sub parent slice sub = by (is_forming slice) where
  by : (t : Bool) → IsSubOf parent (cond t (in_state states.Recovery slice) slice)
  by true = record { name = sub.name; later = sub.later; replicas = sub.replicas; node = sub.node }
  by false = sub

pub recovering_are_subs : (parent : Slice) (slices : List Slice) → All (IsSubOf parent) slices
    → All (IsSubOf parent) (map recovering_slice slices)
recovering_are_subs parent slices subs =
    All-map (IsSubOf parent) recovering_slice slices
    (All-weaker (IsSubOf parent) (λ slice. IsSubOf parent (recovering_slice slice)) (recovering_is_sub parent)
    slices subs)

-- the slices tile the parent's range
abbrev pub TileRangeOf : Slice → List Slice → Type 0
TileRangeOf parent slices = Tiles (map slice_bounds slices) parent.range.min parent.range.max

pub begun_tile : (parent : Slice) (subs : List SubSlice)
    → Tiles (map sub_bounds subs) parent.range.min parent.range.max
    → TileRangeOf parent (map begun_slice subs)
begun_tile parent subs tiles =
    let bounds = map-map slice_bounds begun_slice subs in
    subst (λ ranges. Tiles ranges parent.range.min parent.range.max) (sym bounds) tiles

pub recovering_tile : (parent : Slice) (slices : List Slice) → TileRangeOf parent slices
    → TileRangeOf parent (map recovering_slice slices)
recovering_tile parent slices tiles =
    let each = recovering_keeps slice_bounds (λ _ _. refl) in
    let kept = map-map_kept slice_bounds recovering_slice each slices in
    subst (λ ranges. Tiles ranges parent.range.min parent.range.max) (sym kept) tiles

-- an open split is making some slice: its parent's least hash is in one
pub some_forming : (slices : List Slice) (parent : Slice) → IsSplitting slices parent
    → (slice : Slice) × Contains (forming slices) slice
some_forming slices parent splitting = by (forming slices) one where
  min : ℤ
  min = parent.range.min

  least : min ≤ℤ min
  least = omega (arith, ints)

  one : holders min (map slice_bounds (forming slices)) ≡ 1
  one = splitting.tile.inside min (least, parent.range.ordered)

  by : (made : List Slice) → holders min (map slice_bounds made) ≡ 1 → (slice : Slice) × Contains made slice
  by [] count = absurd (omega arith)
  by (slice ∷ made) count = (slice, (0, omega arith, refl))

-- so no split is open where no slice is being made
pub not_idle : (slices : List Slice) (parent : Slice) → IsSplitting slices parent → forming slices ≡ [] → ⊥
not_idle slices parent splitting idle =
    let some = some_forming slices parent splitting in
    let there : Contains [] some.0 = subst (λ made. Contains made some.0) idle some.1 in
    omega (arith, there.1)
