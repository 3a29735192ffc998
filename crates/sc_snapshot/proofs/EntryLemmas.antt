-- An index of pairs has one entry for each key: what an entry has are the rows of its key.
use Rattle.std.proofs.Common.{◌≡◌, ℕ, Bool, true, false, true≢false, cond, ◌||◌, List, [], ◌∷◌, map, slice_get, Some, is_some, unwrap_or, refl, sym, ap, ◌∙◌}
use Rattle.std.proofs.lemmas.Cmp.{eq_by_cmp_equiv}
use Rattle.std.proofs.lemmas.Map.Entries.{length-keys_of, lookup_from_place}
use Rattle.std.proofs.lemmas.Map.Keys.{IsDistinct-cons}
use Rattle.std.proofs.lemmas.Map.Made.{IsDistinct-from_count, is_some-lookup, length-from_keys}
use Rattle.std.proofs.lemmas.Map.Steps.{list_any_congr}
use Rattle.std.specs.Cmp.{IsTotalOrder}
use Rattle.std.specs.declared.cmp.Ordering.{Ordering}
use Rattle.std.specs.List.{AllByRecursion, IsDistinct, list_any}
use Rattle.std.specs.Map.{keys_of}
use Rattle.std.specs.Ordering.{eq_by_cmp, is_eq}
use Rattle.std.specs.Set.{is_member, unique_keys}
use Rattle.sc_segment.proofs.AddingLemmas.{some-rows_with}
use Rattle.sc_segment.proofs.IndexLemmas.{any-keys, distinct_keys-count}
use Rattle.sc_segment.specs.Index.{IsIndexOf, rows_at}

module _ {K : Type 0} {order : K → K → Ordering} (o : IsTotalOrder order) where
  abbrev same : K → K → Bool
  same = eq_by_cmp order

  -- ---- each key once
  -- has each key
  member-once : (xs : List K) (q : K) → is_member same (unique_keys same xs) q ≡ is_member same xs q
  member-once [] q = refl
  member-once (x ∷ xs) q =
      elim (is_member same xs x) as (λ b. is_member same xs x ≡ b → is_member same (cond b (unique_keys same xs) (x ∷ unique_keys same xs)) q ≡ (same q x || is_member same xs q)) [
        | true ↦ λ again. member-once xs q ∙ by_first again (same q x) refl
        | false ↦ λ _. ap (λ b. same q x || b) (member-once xs q)
      ] refl
    where
      by_first : is_member same xs x ≡ true → (b : Bool) → same q x ≡ b → is_member same xs q ≡ (b || is_member same xs q)
      by_first again true equal = list_any_congr (eq_by_cmp_equiv o) q x xs equal ∙ again
      by_first again false _ = refl

  none-same : (x : K) (xs : List K) → list_any (same x) xs ≡ false → AllByRecursion (λ y. same x y ≡ false) xs
  none-same x [] none = tt
  none-same x (y ∷ ys) none = by_first (λ rest. none-same x ys rest) (same x y) refl none
    where
      by_first : (list_any (same x) ys ≡ false → AllByRecursion (λ z. same x z ≡ false) ys) → (b : Bool) → same x y ≡ b → (b || list_any (same x) ys) ≡ false
          → (same x y ≡ false) × AllByRecursion (λ z. same x z ≡ false) ys
      by_first later true is never = absurd (true≢false never)
      by_first later false is rest = (is, later rest)

  -- and none twice
  distinct-once : (xs : List K) → IsDistinct same (unique_keys same xs)
  unfolding IsDistinct
  distinct-once [] = tt
  distinct-once (x ∷ xs) =
      let once = unique_keys same xs in
      elim (is_member same xs x) as (λ b. is_member same xs x ≡ b → IsDistinct same (cond b (unique_keys same xs) (x ∷ unique_keys same xs))) [
        | true ↦ λ _. distinct-once xs
        | false ↦ λ none. IsDistinct-cons same x once (none-same x once (member-once xs x ∙ none)) (distinct-once xs)
      ] refl

  -- as many entries as keys
  one-entry : (added : List (ℕ × K)) (index : List (K × List ℕ)) → IsIndexOf order added index → IsDistinct same (keys_of index)
  one-entry added index is =
      let keys : List K = map (λ p. p.1) added in
      let members = λ (q : K). member-once (keys_of index) q ∙ sym (is_some-lookup (λ k. is_eq (order q k)) index) ∙ ap is_some (is.rows q)
      ∙ some-rows_with o added q ∙ any-keys o q added in
      IsDistinct-from_count (eq_by_cmp_equiv o) (keys_of index)
      (length-from_keys (eq_by_cmp_equiv o) (unique_keys same (keys_of index)) keys (distinct-once (keys_of index)) members
      ∙ sym (distinct_keys-count o added) ∙ sym is.size ∙ sym (length-keys_of index))

  -- what an index has for the key of an entry are the rows of the entry
  pub rows_at-entry : (added : List (ℕ × K)) (index : List (K × List ℕ)) → IsIndexOf order added index → (i : ℕ) (e : K × List ℕ) → slice_get index i ≡ Some e
      → rows_at order index e.0 ≡ e.1
  rows_at-entry added index is i e at = ap (λ r. unwrap_or r []) (lookup_from_place (eq_by_cmp_equiv o) index i e.0 e.1 (one-entry added index is) at)
