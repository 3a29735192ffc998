-- The ids of a map's slices.
use Rattle.std.proofs.Common.{◌≡◌, ℕ, ◌+◌, ◌<◌, ◌≤◌, List, [], ◌∷◌, ◌++◌, length, map, All, Some, slice_get, arith}
use Rattle.std.specs.List.Sorted.{IsStrictlyIncreasing}
use Rattle.std.proofs.lemmas.Simd.{map-map}
use Rattle.std.proofs.lemmas.List.{length-map, map-append}
use Rattle.std.proofs.lemmas.List.Elements.{All-map, All-nil, All-cons, All-weaker, All-from_get_or}
use Rattle.sc_record.specs.declared.slice.SubSlice.{SubSlice}
use Rattle.sc_cluster.specs.declared.slice.Slice.{Slice}
use Rattle.sc_cluster.specs.Slices.{greatest_id}
use Rattle.sc_cluster.specs.Changes.{begun_slice}
use Rattle.sc_cluster.proofs.ListLemmas.{get_or-map_counted}
use Rattle.sc_cluster.proofs.OrderLemmas.{IsStrictlyIncreasing-append, AreBelow-between, IsStrictlyIncreasing-counted}

-- the number of a slice and of a sub
abbrev pub id_of : Slice → ℕ
id_of slice = slice.id.0

abbrev sub_id : SubSlice → ℕ
sub_id sub = sub.id.0

-- no slice has an id above the greatest
pub greatest_id-bounds : (slices : List Slice) → All (λ slice. id_of slice ≤ greatest_id slices) slices
greatest_id-bounds [] = All-nil (λ slice. id_of slice ≤ 0)
greatest_id-bounds (first ∷ slices) =
    let greatest = greatest_id slices in
    let greater = greatest_id (first ∷ slices) in
    All-cons (λ slice. id_of slice ≤ greater) first slices (omega arith)
    (All-weaker (λ slice. id_of slice ≤ greatest) (λ slice. id_of slice ≤ greater) (λ slice most. omega arith)
    slices (greatest_id-bounds slices))

-- the ids of slices with those of subs that are counted up after them
sub_ids_above : (subs : List SubSlice) (greatest : ℕ)
    → ((i : ℕ) (sub : SubSlice) → slice_get subs i ≡ Some sub → sub_id sub ≡ greatest + 1 + i)
    → All (λ n. greatest < n) (map sub_id subs)
sub_ids_above subs greatest counted = All-from_get_or (λ n. greatest < n) (map sub_id subs) 0 (λ k inside.
    let below : k < length subs = omega (arith, length-map subs sub_id) in
    let is = get_or-map_counted sub_id (λ i. greatest + 1 + i) subs counted k 0 below in
    omega arith)

pub IsStrictlyIncreasing-begun : (slices : List Slice) (subs : List SubSlice)
    → IsStrictlyIncreasing (map id_of slices)
    → ((i : ℕ) (sub : SubSlice) → slice_get subs i ≡ Some sub → sub.id.0 ≡ greatest_id slices + 1 + i)
    → IsStrictlyIncreasing (map id_of (slices ++ map begun_slice subs))
IsStrictlyIncreasing-begun slices subs up counted =
    let greatest = greatest_id slices in
    let low = All-map (λ m. m ≤ greatest) id_of slices (greatest_id-bounds slices) in
    let high = sub_ids_above subs greatest counted in
    rw (map-append id_of slices (map begun_slice subs), map-map id_of begun_slice subs)
    (IsStrictlyIncreasing-append (map id_of slices) (map sub_id subs) up
    (IsStrictlyIncreasing-counted sub_id (greatest + 1) subs counted)
    (AreBelow-between (map id_of slices) (map sub_id subs) greatest low high))
