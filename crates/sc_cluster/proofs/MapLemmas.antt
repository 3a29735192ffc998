-- A map stays a map.
use Rattle.std.proofs.Common.{ℕ, ◌≡◌, ◌≤◌, ◌+◌, ◌⊎◌, inl, inr, true, false, List, [], length, map, get_or, slice_get, Some, All, Contains, sym, subst, arith}
use Rattle.std.specs.List.{filter}
use Rattle.std.proofs.lemmas.Bool.{not-true}
use Rattle.std.proofs.lemmas.List.Elements.{All-map, All-weaker, All-filter, All-contains, Contains-append_left, filter_passes}
use Rattle.sc_record.specs.declared.slice.SliceId.{SliceId}
use Rattle.sc_record.specs.declared.slice.SubSlice.{SubSlice}
use Rattle.sc_cluster.specs.declared.slice.State.TheVariants as states
use Rattle.sc_cluster.specs.declared.slice.Slice.{Slice}
use Rattle.sc_cluster.specs.Limits.{most_slices}
use Rattle.sc_cluster.specs.Slices.{is_forming, forming, greatest_id}
use Rattle.sc_cluster.specs.Map.{IsSubOf, IsSplitting, IsMap, AreFirst}
use Rattle.sc_cluster.specs.Plans.{sub_bounds, MayCut, IsPlanned, IsPlan}
use Rattle.sc_cluster.specs.Changes.{Change, begun_slice, recovering_slice, switched_slice, after, MayChange, IsBeingSplit}
use Rattle.sc_cluster.proofs.ListLemmas.{filter-none, none_from_filter, Contains-map}
use Rattle.sc_cluster.proofs.IdLemmas.{id_of, greatest_id-bounds}
use Rattle.sc_cluster.proofs.StateLemmas.{is_settled, is_other, active_settled, is_forming-switched, recovering-active, forming-begun, forming-recovering}
use Rattle.sc_cluster.proofs.SplitLemmas.{TileRangeOf, begun_are_subs, recovering_are_subs, begun_tile, recovering_tile}
use Rattle.sc_cluster.proofs.ChangeLemmas.{change_few, change_ids, change_tile}
use Rattle.sc_cluster.proofs.FirstLemmas.{first_active, first_ids, first_tile}
use Rattle.sc_cluster.proofs.NameLemmas.{first_names, first_apart, planned_fresh, change_names, change_apart}

-- no split is open among the slices of a new collection
pub first_is_idle : (shards replicas nodes : ℕ) (slices : List Slice) → AreFirst shards replicas nodes slices
    → forming slices ≡ []
first_is_idle shards replicas nodes slices first =
    filter-none is_forming slices
    (All-weaker (λ (slice : Slice). slice.state ≡ states.Active) (λ slice. is_forming slice ≡ false)
    active_settled slices (first_active shards replicas nodes slices first))

-- and they are a map
pub first_is_map : (shards replicas nodes : ℕ) (slices : List Slice) → 1 ≤ shards → shards ≤ most_slices
    → AreFirst shards replicas nodes slices → IsMap slices
first_is_map shards replicas nodes slices one few first = record {
  few = let count = first.count in omega arith;
  ids = first_ids shards replicas nodes slices first;
  names = first_names shards replicas nodes slices few first;
  tile = first_tile shards replicas nodes slices one few first;
  split = inl (first_is_idle shards replicas nodes slices first);
  apart = first_apart shards replicas nodes slices few first;
}

-- subs that are planned for a slice of a map are a plan: their names are new
pub planned_is_plan : (slices : List Slice) (parent : SliceId) (subs : List SubSlice) (slice : Slice)
    → IsMap slices → forming slices ≡ [] → MayCut slices parent (map sub_bounds subs) slice
    → ((i : ℕ) (sub : SubSlice) → slice_get subs i ≡ Some sub → IsPlanned slice (greatest_id slices) i sub)
    → length slices + length subs ≤ most_slices → IsPlan slices parent subs
planned_is_plan slices parent subs slice is_map idle may_cut planned few = record {
  idle = idle;
  cut = (slice, may_cut, planned);
  fresh = planned_fresh slices slice subs (greatest_id slices) is_map idle may_cut.there may_cut.active planned;
  few = few;
}

-- a split is open once it has begun
pub begun_is_split : (slices : List Slice) (parent : SliceId) (subs : List SubSlice) → IsMap slices
    → MayChange slices (Change.Begun parent subs) → IsBeingSplit (after slices (Change.Begun parent subs)) parent
begun_is_split slices parent subs is_map may =
    let slice = may.cut.0 in
    let may_cut = may.cut.1 in
    let greatest = greatest_id slices in
    let bounds = greatest_id-bounds slices in
    let most = All-contains (λ other. id_of other ≤ greatest) slices slice bounds may_cut.there in
    let formed = sym (forming-begun slices subs may.idle) in (
      slice,
      may_cut.named,
      record {
        there = Contains-append_left slices (map begun_slice subs) slice may_cut.there;
        active = may_cut.active;
        subs = subst (All (IsSubOf slice)) formed (begun_are_subs slice greatest subs most may.cut.2);
        tile = subst (TileRangeOf slice) formed (begun_tile slice subs may_cut.tile);
      },
    )

-- it is open in recovery
pub recovering_is_split : (slices : List Slice) (parent : SliceId) → IsBeingSplit slices parent
    → IsBeingSplit (after slices (Change.Recovering parent)) parent
recovering_is_split slices parent (slice, named, splitting) =
    let formed = sym (forming-recovering slices) in
    let same = recovering-active slice splitting.active in
    let there = Contains-map recovering_slice slices slice splitting.there in (
      slice,
      named,
      record {
        there = subst (Contains (map recovering_slice slices)) same there;
        active = splitting.active;
        subs = subst (All (IsSubOf slice)) formed (recovering_are_subs slice (forming slices) splitting.subs);
        tile = subst (TileRangeOf slice) formed (recovering_tile slice (forming slices) splitting.tile);
      },
    )

-- and none is open once it has ended
pub switched_is_idle : (slices : List Slice) (parent : SliceId)
    → forming (after slices (Change.Switched parent)) ≡ []
switched_is_idle slices parent =
    filter-none is_forming (map (switched_slice parent) slices)
    (All-map (λ slice. is_forming slice ≡ false) (switched_slice parent) slices
    (λ k d _. is_forming-switched parent (get_or slices k d)))

pub failed_is_idle : (slices : List Slice) (parent : SliceId)
    → forming (after slices (Change.Failed parent)) ≡ []
failed_is_idle slices parent =
    filter-none is_forming (filter is_settled slices)
    (All-weaker (λ slice. is_settled slice ≡ true) (λ slice. is_forming slice ≡ false)
    (λ slice. not-true (is_forming slice)) (filter is_settled slices) (filter_passes is_settled slices))

pub dropped_is_idle : (slices : List Slice) (dropped : SliceId) → forming slices ≡ []
    → forming (after slices (Change.Dropped dropped)) ≡ []
dropped_is_idle slices dropped idle =
    filter-none is_forming (filter (is_other dropped) slices)
    (All-filter (is_other dropped) (λ slice. is_forming slice ≡ false) slices
    (none_from_filter is_forming slices idle))

change_split : (slices : List Slice) (change : Change) → IsMap slices → MayChange slices change
    → (forming (after slices change) ≡ []) ⊎ ((parent : Slice) × IsSplitting (after slices change) parent)
change_split slices (Change.Begun parent subs) is_map may =
    let split = begun_is_split slices parent subs is_map may in inr (split.0, split.2)
change_split slices (Change.Recovering parent) is_map may =
    let split = recovering_is_split slices parent may.0 in inr (split.0, split.2)
change_split slices (Change.Switched parent) is_map may = inl (switched_is_idle slices parent)
change_split slices (Change.Failed parent) is_map may = inl (failed_is_idle slices parent)
change_split slices (Change.Dropped dropped) is_map may = inl (dropped_is_idle slices dropped may.0)

-- a change that is allowed leaves a map
pub change_is_map : (slices : List Slice) (change : Change) → IsMap slices → MayChange slices change
    → IsMap (after slices change)
change_is_map slices change is_map may = record {
  few = change_few slices change is_map may;
  ids = change_ids slices change is_map may;
  names = change_names slices change is_map may;
  tile = change_tile slices change is_map may;
  split = change_split slices change is_map may;
  apart = change_apart slices change is_map may;
}
