-- The ids and the ranges of a plan's subs, beside those of the slices that are there.
use Rattle.std.proofs.Common.{◌≡◌, ◌≤◌, ◌<◌, ◌+◌, ◌*◌, ◌⊎◌, ℕ, ℤ, Bool, true, false, inl, inr, List, ◌++◌, length, map, slice_get, Some, Contains, refl, sym, ap, arith}
use Rattle.std.specs.List.Sorted.{IsStrictlyIncreasing}
use Rattle.std.proofs.lemmas.Bool.Decides.{not_from_Decides}
use Rattle.std.proofs.lemmas.List.{length-map}
use Rattle.std.proofs.lemmas.List.Elements.{All-contains, Contains-append_cases, Contains-append_right}
use Rattle.sc_hash.specs.Range.{IsWithin}
use Rattle.sc_hash.specs.Bounds.{contains}
use Rattle.sc_hash.proofs.BoundsLemmas.{contains-Decides}
use Rattle.sc_record.specs.declared.slice.SliceId.{SliceId}
use Rattle.sc_record.specs.declared.slice.SubSlice.{SubSlice}
use Rattle.sc_cluster.specs.declared.slice.Slice.{Slice}
use Rattle.sc_cluster.specs.Slices.{greatest_id}
use Rattle.sc_cluster.specs.Tiles.{holders, Tiles}
use Rattle.sc_cluster.specs.Map.{IsMap}
use Rattle.sc_cluster.specs.Plans.{sub_bounds, IsPlan}
use Rattle.sc_cluster.specs.Changes.{begun_slice}
use Rattle.sc_cluster.proofs.ItemLemmas.{count_by-positive}
use Rattle.sc_cluster.proofs.LeaderLemmas.{same_from_id}
use Rattle.sc_cluster.proofs.ListLemmas.{All-from_slice_get, Contains-map, get_or-map_counted}
use Rattle.sc_cluster.proofs.PairLemmas.{Contains-from_map}

-- each sub has one
pub sub_above : (slices : List Slice) (parent : SliceId) (subs : List SubSlice) (sub : SubSlice)
    → IsPlan slices parent subs → Contains subs sub → greatest_id slices < sub.id.0
sub_above slices parent subs sub plan there =
    All-contains (λ (s : SubSlice). greatest_id slices < s.id.0) subs sub
    (All-from_slice_get (λ (s : SubSlice). greatest_id slices < s.id.0) subs
    (λ i s at. let is = (plan.cut.2 i s at).id in omega (arith, is))) there

-- a slice beside the subs whose id is no greater was there
pub was_there : (slices : List Slice) (parent : SliceId) (subs : List SubSlice) (slice : Slice)
    → IsPlan slices parent subs → slice.id.0 ≤ greatest_id slices
    → Contains (slices ++ map begun_slice subs) slice → Contains slices slice
was_there slices parent subs slice plan low there =
    by (Contains-append_cases slices (map begun_slice subs) slice there)
  where
    by : Contains slices slice ⊎ Contains (map begun_slice subs) slice → Contains slices slice
    by (inl before) = before
    by (inr begun) =
        let (sub, inside, is) = Contains-from_map begun_slice subs slice begun in
        let above : greatest_id slices < sub.id.0 = sub_above slices parent subs sub plan inside in
        let same : sub.id.0 ≡ slice.id.0 = ap (λ (s : Slice). s.id.0) is in
        absurd (omega arith)

-- a slice beside the subs that has the id of a sub is the sub
pub is_begun : (slices : List Slice) (subs : List SubSlice) (sub : SubSlice) (slice : Slice)
    → IsMap (slices ++ map begun_slice subs) → Contains subs sub
    → Contains (slices ++ map begun_slice subs) slice → slice.id ≡ sub.id → begun_slice sub ≡ slice
is_begun slices subs sub slice is_map inside there same =
    same_from_id (slices ++ map begun_slice subs) (begun_slice sub) slice is_map
    (Contains-append_right slices (map begun_slice subs) (begun_slice sub) (Contains-map begun_slice subs sub inside))
    there (sym same)

-- a sub's range lies in the range that the subs tile
pub sub_within : (subs : List SubSlice) (sub : SubSlice) (min max h : ℤ) → Tiles (map sub_bounds subs) min max
    → Contains subs sub → IsWithin sub.min sub.max h → IsWithin min max h
sub_within subs sub min max h tiles there inside = by (contains h (min, max)) refl where
  by : (b : Bool) → contains h (min, max) ≡ b → IsWithin min max h
  by true is = (contains-Decides h min max).0 is
  by false is =
      let none : holders h (map sub_bounds subs) ≡ 0 =
      tiles.outside h (not_from_Decides (contains h (min, max)) (contains-Decides h min max) is) in
      let some : 1 ≤ holders h (map sub_bounds subs) =
      count_by-positive (contains h) (map sub_bounds subs) (sub_bounds sub) (Contains-map sub_bounds subs sub there)
      ((contains-Decides h sub.min sub.max).1 inside) in
      absurd (omega arith)

-- the number of the name of a sub's leader
abbrev pub leader_number : SubSlice → ℕ
leader_number sub = sub.id.0 * 256 + 1

-- these numbers rise
pub leaders_rise : (slices : List Slice) (parent : SliceId) (subs : List SubSlice) → IsPlan slices parent subs
    → IsStrictlyIncreasing (map leader_number subs)
leaders_rise slices parent subs plan k below =
    let value : ℕ → ℕ = λ i. (greatest_id slices + 1 + i) * 256 + 1 in
    let each : (i : ℕ) (sub : SubSlice) → slice_get subs i ≡ Some sub → leader_number sub ≡ value i =
    λ i sub at. ap (λ (n : ℕ). n * 256 + 1) (plan.cut.2 i sub at).id in
    let inside : k + 1 < length subs = omega (arith, length-map subs leader_number) in
    let here = get_or-map_counted leader_number value subs each k 0 (omega arith) in
    let next = get_or-map_counted leader_number value subs each (k + 1) 0 inside in
    omega (arith, here, next)
