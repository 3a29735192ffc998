-- The parts of a map after a change.
use Rattle.std.proofs.Common.{◌≤◌, Bool, List, length, map, refl, sym, subst, arith}
use Rattle.std.specs.List.{filter}
use Rattle.std.specs.List.Sorted.{IsStrictlyIncreasing}
use Rattle.std.proofs.lemmas.List.{length-map, length-append}
use Rattle.std.proofs.lemmas.List.Sums.{length-filter, count_by-le-length}
use Rattle.sc_cluster.specs.declared.slice.Slice.{Slice}
use Rattle.sc_cluster.specs.Limits.{most_slices}
use Rattle.sc_cluster.specs.Tiles.{Tiles}
use Rattle.sc_cluster.specs.Slices.{active_ranges}
use Rattle.sc_cluster.specs.Map.{least_hash, greatest_hash, IsMap}
use Rattle.sc_cluster.specs.Changes.{Change, begun_slice, recovering_slice, switched_slice, after, MayChange}
use Rattle.sc_cluster.proofs.ListLemmas.{map-map_kept}
use Rattle.sc_cluster.proofs.OrderLemmas.{IsStrictlyIncreasing-map-filter}
use Rattle.sc_cluster.proofs.IdLemmas.{id_of, IsStrictlyIncreasing-begun}
use Rattle.sc_cluster.proofs.StateLemmas.{is_settled, is_other, recovering_keeps, switched_keeps, active_ranges-begun, active_ranges-recovering, active_ranges-settled}
use Rattle.sc_cluster.proofs.TileLemmas.{Tiles-switched, Tiles-dropped}

length-filter-le : {A : Type 0} (p : A → Bool) (xs : List A) → length (filter p xs) ≤ length xs
length-filter-le p xs = omega (arith, length-filter p xs, count_by-le-length p xs)

-- the slices are few
pub change_few : (slices : List Slice) (change : Change) → IsMap slices → MayChange slices change
    → length (after slices change) ≤ most_slices
change_few slices (Change.Begun parent subs) is_map may =
    let few = may.few in omega (arith, length-append slices (map begun_slice subs), length-map subs begun_slice)
change_few slices (Change.Recovering parent) is_map may =
    let few = is_map.few in omega (arith, length-map slices recovering_slice)
change_few slices (Change.Switched parent) is_map may =
    let few = is_map.few in omega (arith, length-map slices (switched_slice parent))
change_few slices (Change.Failed parent) is_map may =
    let few = is_map.few in omega (arith, length-filter-le is_settled slices)
change_few slices (Change.Dropped dropped) is_map may =
    let few = is_map.few in omega (arith, length-filter-le (is_other dropped) slices)

-- their ids rise
pub change_ids : (slices : List Slice) (change : Change) → IsMap slices → MayChange slices change
    → IsStrictlyIncreasing (map id_of (after slices change))
change_ids slices (Change.Begun parent subs) is_map may =
    IsStrictlyIncreasing-begun slices subs is_map.ids (λ i sub at. (may.cut.2 i sub at).id)
change_ids slices (Change.Recovering parent) is_map may =
    let kept = map-map_kept id_of recovering_slice (recovering_keeps id_of (λ _ _. refl)) slices in
    subst IsStrictlyIncreasing (sym kept) is_map.ids
change_ids slices (Change.Switched parent) is_map may =
    let kept = map-map_kept id_of (switched_slice parent) (switched_keeps id_of (λ _ _. refl) parent) slices in
    subst IsStrictlyIncreasing (sym kept) is_map.ids
change_ids slices (Change.Failed parent) is_map may =
    IsStrictlyIncreasing-map-filter id_of is_settled slices is_map.ids
change_ids slices (Change.Dropped dropped) is_map may =
    IsStrictlyIncreasing-map-filter id_of (is_other dropped) slices is_map.ids

-- and the active ones tile all hashes
pub change_tile : (slices : List Slice) (change : Change) → IsMap slices → MayChange slices change
    → Tiles (active_ranges (after slices change)) least_hash greatest_hash
change_tile slices (Change.Begun parent subs) is_map may =
    subst (λ ranges. Tiles ranges least_hash greatest_hash) (sym (active_ranges-begun slices subs)) is_map.tile
change_tile slices (Change.Recovering parent) is_map may =
    subst (λ ranges. Tiles ranges least_hash greatest_hash) (sym (active_ranges-recovering slices)) is_map.tile
change_tile slices (Change.Switched parent) is_map (slice, named, splitting) =
    Tiles-switched slices parent slice least_hash greatest_hash is_map.ids named splitting is_map.tile
change_tile slices (Change.Failed parent) is_map may =
    subst (λ ranges. Tiles ranges least_hash greatest_hash) (sym (active_ranges-settled slices)) is_map.tile
change_tile slices (Change.Dropped dropped) is_map (idle, (slice, there, named, inactive)) =
    Tiles-dropped slices dropped slice least_hash greatest_hash is_map.ids there named inactive is_map.tile
