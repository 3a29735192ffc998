-- The slices of a new collection.
use Rattle.std.proofs.Common.{◌≡◌, ℕ, zero, suc, ◌<◌, ◌≤◌, ◌⊎◌, inl, inr, ℤ, pos, ◌≤ℤ◌, true, List, [], ◌∷◌, ◌++◌, length, get_or, map, refl, sym, ap, ◌∙◌, subst, All, arith}
use Rattle.std.specs.List.Sorted.{IsStrictlyIncreasing}
use Rattle.std.proofs.lemmas.Bool.{cases_lt}
use Rattle.std.proofs.lemmas.Int.{ints}
use Rattle.std.proofs.lemmas.List.{length-map, length_push, get_or_append_left, get_or_push, ext_get_or}
use Rattle.std.proofs.lemmas.List.Elements.{All-weaker}
use Rattle.sc_hash.specs.Range.{size_of}
use Rattle.sc_cluster.specs.declared.slice.State.TheVariants as states
use Rattle.sc_cluster.specs.declared.slice.Slice.{Slice}
use Rattle.sc_cluster.specs.Limits.{most_slices}
use Rattle.sc_cluster.specs.Tiles.{Tiles}
use Rattle.sc_cluster.specs.Cut.{part, first_parts, cut}
use Rattle.sc_cluster.specs.Slices.{is_active_state, is_active, slice_bounds, active_ranges}
use Rattle.sc_cluster.specs.Map.{least_hash, greatest_hash, AreFirst}
use Rattle.sc_cluster.proofs.CutLemmas.{cut_tiles}
use Rattle.sc_cluster.proofs.ListLemmas.{filter-all, All-from_slice_get, get_or-map_counted}
use Rattle.sc_cluster.proofs.OrderLemmas.{IsStrictlyIncreasing-counted}
use Rattle.sc_cluster.proofs.IdLemmas.{id_of}

-- the parts of a cut range, by their places
length-first_parts : (min max : ℤ) (n k : ℕ) → length (first_parts min max n k) ≡ k
length-first_parts min max n zero = refl
length-first_parts min max n (suc k) =
    omega (arith, length_push (first_parts min max n k) (part min max n k), length-first_parts min max n k)

get_or-first_parts : (min max : ℤ) (n k i : ℕ) (d : ℤ × ℤ) → i < k
    → get_or (first_parts min max n k) i d ≡ part min max n i
get_or-first_parts min max n zero i d below = absurd (omega arith)
get_or-first_parts min max n (suc k) i d below = by (cases_lt i k) (get_or-first_parts min max n k i d) where
  parts : List (ℤ × ℤ)
  parts = first_parts min max n k

  last : List (ℤ × ℤ)
  last = part min max n k ∷ []

  by : (i < k) ⊎ (k ≤ i) → (i < k → get_or parts i d ≡ part min max n i)
      → get_or (parts ++ last) i d ≡ part min max n i
  by (inl less) rest =
      get_or_append_left parts last d i (omega (arith, length-first_parts min max n k)) ∙ rest less
  by (inr most) rest =
      let end : k ≡ i = omega arith in
      get_or_push parts (part min max n k) d i (length-first_parts min max n k ∙ end) ∙ ap (part min max n) end

-- all of them are active
pub first_active : (shards replicas nodes : ℕ) (slices : List Slice) → AreFirst shards replicas nodes slices
    → All (λ (slice : Slice). slice.state ≡ states.Active) slices
first_active shards replicas nodes slices first =
    All-from_slice_get (λ (slice : Slice). slice.state ≡ states.Active) slices
    (λ i slice at. (first.each i slice at).state)

-- their ids are counted up
pub first_ids : (shards replicas nodes : ℕ) (slices : List Slice) → AreFirst shards replicas nodes slices
    → IsStrictlyIncreasing (map id_of slices)
first_ids shards replicas nodes slices first =
    IsStrictlyIncreasing-counted id_of 0 slices
    (λ i slice at. let is = (first.each i slice at).id in omega arith)

-- their ranges are the parts of all hashes
first_bounds : (shards replicas nodes : ℕ) (slices : List Slice) → AreFirst shards replicas nodes slices
    → map slice_bounds slices ≡ cut least_hash greatest_hash shards
first_bounds shards replicas nodes slices first =
    ext_get_or d (map slice_bounds slices) (cut least_hash greatest_hash shards) sizes each where
      d : ℤ × ℤ
      d = (least_hash, greatest_hash)

      share : ℕ → ℤ × ℤ
      share = part least_hash greatest_hash shards

      sizes : length (map slice_bounds slices) ≡ length (cut least_hash greatest_hash shards)
      sizes =
          let count = first.count in
          let parts = length-first_parts least_hash greatest_hash shards shards in
          omega (arith, length-map slices slice_bounds)

      each : (i : ℕ) → i < length (map slice_bounds slices)
          → get_or (map slice_bounds slices) i d ≡ get_or (cut least_hash greatest_hash shards) i d
      each i below =
          let count = first.count in
          let inside : i < length slices = omega (arith, length-map slices slice_bounds) in
          get_or-map_counted slice_bounds share slices (λ k slice at. (first.each k slice at).range) i d inside
          ∙ sym (get_or-first_parts least_hash greatest_hash shards shards i d (omega arith))

-- and tile all hashes
pub first_tile : (shards replicas nodes : ℕ) (slices : List Slice) → 1 ≤ shards → shards ≤ most_slices
    → AreFirst shards replicas nodes slices → Tiles (active_ranges slices) least_hash greatest_hash
first_tile shards replicas nodes slices one few first =
    let size : pos shards ≤ℤ size_of least_hash greatest_hash = omega (arith, ints) in
    let states_are = first_active shards replicas nodes slices first in
    let active = All-weaker (λ (slice : Slice). slice.state ≡ states.Active) (λ slice. is_active slice ≡ true)
    (λ slice. ap is_active_state) slices states_are in
    let bounds = first_bounds shards replicas nodes slices first in
    let ranges = ap (map slice_bounds) (filter-all is_active slices active) ∙ bounds in
    subst (λ parts. Tiles parts least_hash greatest_hash) (sym ranges)
    (cut_tiles least_hash greatest_hash shards one size)
