-- The active slices tile all hashes, whatever change is made.
use Rattle.std.proofs.Common.{◌≡◌, ℕ, ◌+◌, Bool, true, false, not, cond, ◌&&◌, eqb, ℤ, List, map, refl, ap, ◌∙◌, subst, Contains, arith}
use Rattle.std.specs.List.{count_by, filter}
use Rattle.std.specs.List.Sorted.{IsStrictlyIncreasing}
use Rattle.std.proofs.lemmas.Bool.Decides.{not_from_Decides}
use Rattle.sc_record.specs.declared.slice.SliceId.{SliceId}
use Rattle.sc_cluster.specs.declared.slice.State.{State}
use Rattle.sc_cluster.specs.declared.slice.State.TheVariants as states
use Rattle.sc_cluster.specs.declared.slice.Slice.{Slice}
use Rattle.sc_hash.specs.Bounds.{contains}
use Rattle.sc_hash.proofs.BoundsLemmas.{contains-Decides}
use Rattle.sc_cluster.specs.Tiles.{holders, Tiles}
use Rattle.sc_cluster.specs.Slices.{is_active_state, is_forming_state, is_active, is_forming, forming, slice_bounds, active_ranges}
use Rattle.sc_cluster.specs.Map.{IsSplitting}
use Rattle.sc_cluster.specs.Changes.{switched_slice}
use Rattle.sc_cluster.proofs.CountLemmas.{count_by-map, count_by-filter, count_by-balance, count_by-none}
use Rattle.sc_cluster.proofs.OrderLemmas.{at_key, count_by-at_key}
use Rattle.sc_cluster.proofs.IdLemmas.{id_of}
use Rattle.sc_cluster.proofs.StateLemmas.{is_other, switched_keeps, is_active-switched}

-- how many of the ranges of a tiling have a number
holders-Tiles : (ranges : List (ℤ × ℤ)) (min max h : ℤ) → Tiles ranges min max
    → holders h ranges ≡ cond (contains h (min, max)) 1 0
holders-Tiles ranges min max h tiles = by (contains h (min, max)) refl where
  by : (t : Bool) → contains h (min, max) ≡ t → holders h ranges ≡ cond t 1 0
  by true is = tiles.inside h ((contains-Decides h min max).0 is)
  by false is = tiles.outside h (not_from_Decides (contains h (min, max)) (contains-Decides h min max) is)

-- a tiling is one by how many ranges have each number
Tiles-same : (ranges others : List (ℤ × ℤ)) (min max : ℤ) → ((h : ℤ) → holders h ranges ≡ holders h others)
    → Tiles others min max → Tiles ranges min max
Tiles-same ranges others min max same tiles = record {
  inside = λ h within. same h ∙ tiles.inside h within;
  outside = λ h beyond. same h ∙ tiles.outside h beyond;
}

-- a slice that passes a test and has a number
abbrev pub with_number : ℤ → (Slice → Bool) → Slice → Bool
with_number h p slice = p slice && contains h (slice_bounds slice)

pub holders-filter : (h : ℤ) (p : Slice → Bool) (slices : List Slice)
    → holders h (map slice_bounds (filter p slices)) ≡ count_by (with_number h p) slices
holders-filter h p slices =
    count_by-map slice_bounds (contains h) (filter p slices)
    ∙ count_by-filter (λ slice. contains h (slice_bounds slice)) p slices

-- 1 for a slice that passes a test
abbrev count_one : (Slice → Bool) → Slice → ℕ
count_one p slice = cond (p slice) 1 0

-- in a switch a slice stops to be active as the parent alone, and begins to be as one that was being made
switched_balance : (h : ℤ) (parent slice : Slice)
    → count_one (with_number h is_active) (switched_slice parent.id slice)
    + count_one (at_key id_of (with_number h is_active) parent) slice
    ≡ count_one (with_number h is_active) slice + count_one (with_number h is_forming) slice
switched_balance h parent slice =
    rw (is_active-switched parent.id slice, switched_keeps slice_bounds (λ _ _. refl) parent.id slice)
    (by slice.state (eqb slice.id.0 parent.id.0) (contains h (slice_bounds slice))) where
      by : (state : State) (t u : Bool)
          → cond {A = ℕ} (cond (is_forming_state state) true (cond t false (is_active_state state)) && u) 1 0
          + cond (t && (is_active_state state && u)) 1 0
          ≡ cond (is_active_state state && u) 1 0 + cond (is_forming_state state && u) 1 0
      by states.Active true true = refl
      by states.Inactive true true = refl
      by states.Construction true true = refl
      by states.Recovery true true = refl
      by _ _ _ = omega arith

-- so each number has as many active slices as before
holders-switched : (h : ℤ) (slices : List Slice) (parent : Slice) → IsStrictlyIncreasing (map id_of slices)
    → IsSplitting slices parent
    → holders h (active_ranges (map (switched_slice parent.id) slices)) ≡ holders h (active_ranges slices)
holders-switched h slices parent ids splitting =
    let leads = with_number h is_active in
    let range = parent.range in
    let balance = count_by-balance (λ slice. leads (switched_slice parent.id slice)) (at_key id_of leads parent)
    leads (with_number h is_forming) (switched_balance h parent) slices in
    let lost = count_by-at_key id_of leads parent slices ids splitting.there in
    let gained = holders-Tiles (map slice_bounds (forming slices)) range.min range.max h splitting.tile in
    let was : cond {A = ℕ} (leads parent) 1 0 ≡ cond (contains h (slice_bounds parent)) 1 0
    = ap (λ state. cond (is_active_state state && contains h (slice_bounds parent)) 1 0) splitting.active in
    let after = holders-filter h is_active (map (switched_slice parent.id) slices) in
    let mapped = count_by-map (switched_slice parent.id) leads slices in
    omega (arith, holders-filter h is_active slices, holders-filter h is_forming slices)

pub Tiles-switched : (slices : List Slice) (parent : SliceId) (slice : Slice) (min max : ℤ)
    → IsStrictlyIncreasing (map id_of slices) → slice.id ≡ parent → IsSplitting slices slice
    → Tiles (active_ranges slices) min max → Tiles (active_ranges (map (switched_slice parent) slices)) min max
Tiles-switched slices parent slice min max ids named splitting tiles =
    let switched : SliceId → List (ℤ × ℤ) = λ id. active_ranges (map (switched_slice id) slices) in
    subst (λ id. Tiles (switched id) min max) named
    (Tiles-same (switched slice.id) (active_ranges slices) min max
    (λ h. holders-switched h slices slice ids splitting) tiles)

-- an inactive slice that is dropped has no number
dropped_balance : (h : ℤ) (dropped slice : Slice)
    → cond (is_other dropped.id slice && with_number h is_active slice) 1 0
    + count_one (at_key id_of (with_number h is_active) dropped) slice
    ≡ count_one (with_number h is_active) slice + count_one (λ _. false) slice
dropped_balance h dropped slice = by (eqb slice.id.0 dropped.id.0) (with_number h is_active slice) where
  by : (t u : Bool) → cond {A = ℕ} (not t && u) 1 0 + cond (t && u) 1 0 ≡ cond u 1 0 + cond {A = ℕ} false 1 0
  by true true = refl
  by false true = refl
  by _ _ = refl

holders-dropped : (h : ℤ) (slices : List Slice) (dropped : Slice) → IsStrictlyIncreasing (map id_of slices)
    → Contains slices dropped → dropped.state ≡ states.Inactive
    → holders h (active_ranges (filter (is_other dropped.id) slices)) ≡ holders h (active_ranges slices)
holders-dropped h slices dropped ids there inactive =
    let leads = with_number h is_active in
    let stays : Slice → Bool = λ slice. is_other dropped.id slice && leads slice in
    let balance = count_by-balance stays (at_key id_of leads dropped)
    leads (λ _. false) (dropped_balance h dropped) slices in
    let lost = count_by-at_key id_of leads dropped slices ids there in
    let none = count_by-none {A = Slice} (λ _. false) slices (λ _ _ _. refl) in
    let was : cond {A = ℕ} (leads dropped) 1 0 ≡ 0
    = ap (λ state. cond (is_active_state state && contains h (slice_bounds dropped)) 1 0) inactive in
    let after = holders-filter h is_active (filter (is_other dropped.id) slices) in
    let kept = count_by-filter leads (is_other dropped.id) slices in
    omega (arith, holders-filter h is_active slices)

pub Tiles-dropped : (slices : List Slice) (dropped : SliceId) (slice : Slice) (min max : ℤ)
    → IsStrictlyIncreasing (map id_of slices) → Contains slices slice → slice.id ≡ dropped
    → slice.state ≡ states.Inactive → Tiles (active_ranges slices) min max
    → Tiles (active_ranges (filter (is_other dropped) slices)) min max
Tiles-dropped slices dropped slice min max ids there named inactive tiles =
    let left : SliceId → List (ℤ × ℤ) = λ id. active_ranges (filter (is_other id) slices) in
    subst (λ id. Tiles (left id) min max) named
    (Tiles-same (left slice.id) (active_ranges slices) min max
    (λ h. holders-dropped h slices slice ids there inactive) tiles)
