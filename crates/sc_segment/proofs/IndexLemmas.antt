-- An index of pairs said by its look-ups, and the same said by members: which rows it has for each key.
use Rattle.std.proofs.Common.{◌≡◌, ℕ, ◌+◌, ◌<◌, ◌≤◌, ◌==◌, ◌↔◌, ◌||◌, suc, Bool, true, false, cond, List, [], ◌∷◌, length, map, filter, slice_get, get_or, All, Contains, Option, Some, None, is_some, option_map, unwrap_or, refl, sym, ap, subst, ◌∙◌, arith, ⊎_elim}
use Rattle.std.proofs.lemmas.Bool.Decides.{nat_tests}
use Rattle.std.proofs.lemmas.Cmp.{eq_by_cmp_equiv}
use Rattle.std.proofs.lemmas.List.{get_or-map, length-map}
use Rattle.std.proofs.lemmas.List.Elements.{All-get_or}
use Rattle.std.proofs.lemmas.List.Kept.{IsNonDecreasingBy-filter}
use Rattle.std.proofs.lemmas.Map.Entries.{All-lookup, lookup_at_gap, length-keys_of}
use Rattle.std.proofs.lemmas.Map.Keys.{IsDistinct-from_sorted, IsStrictlyIncreasing-dedup}
use Rattle.std.proofs.lemmas.Map.Made.{length-from_keys, is_some-lookup}
use Rattle.std.proofs.lemmas.Option.{slice_get-map, slice_get_within, get_or_from_slice_get}
use Rattle.std.specs.Cmp.{IsTotalOrder, both_ways}
use Rattle.std.specs.declared.cmp.Ordering.{Ordering}
use Rattle.std.specs.declared.cmp.Ordering.TheVariants.{Equal}
use Rattle.std.specs.List.{list_any}
use Rattle.std.specs.List.Sorted.{IsStrictlyIncreasing, IsStrictlySortedBy, IsNonDecreasing, IsNonDecreasingBy, IsSorted}
use Rattle.std.specs.Map.{keys_of, lookup}
use Rattle.std.specs.Option.{IfSome}
use Rattle.std.specs.Ordering.{is_eq, is_lt, nat_cmp, eq_by_cmp}
use Rattle.std.specs.Set.{distinct_count, unique_keys}
use Rattle.sc_keys.proofs.SearchLemmas.{lookup-equal}
use Rattle.sc_keys.specs.Searching.{IsGapFor}
use Rattle.sc_rows.proofs.SameRowsLemmas.{same_rows}
use Rattle.sc_rows.specs.Moving.{new_numbers}
use Rattle.sc_rows.specs.Joining.{has_row}
use Rattle.sc_segment.proofs.AddingLemmas.{unwrap_or-non_empty, some-rows_with}
use Rattle.sc_segment.proofs.MembersLemmas.{Contains-rows_with, Contains-cases}
use Rattle.sc_segment.specs.Carrying.{IsCarried}
use Rattle.sc_segment.specs.Index.{IsIndexOf, IsInOrder, rows_with, rows_at, distinct_keys, non_empty, WasAddedWith}

-- what holds of each element holds of the one at a place
pub All-place : {X : Type 0} (P : X → Type 0) (xs : List X) (i : ℕ) (x : X) → All P xs → slice_get xs i ≡ Some x → P x
All-place P xs i x all at =
    let within = slice_get_within xs i x at in
    rw (get_or_from_slice_get xs i x x at) at (All-get_or P xs i x within all)

-- the rows that were added with a key are its members
pub members_from_rows : {K : Type 0} (order : K → K → Ordering) (added : List (ℕ × K)) (rows : List ℕ) (key : K) (row : ℕ) → rows ≡ rows_with order added key
    → Contains rows row ↔ WasAddedWith order added key row
members_from_rows order added rows key row is =
    subst (λ (rs : List ℕ). Contains rs row ↔ WasAddedWith order added key row) (sym is) (Contains-rows_with order key row added)

module _ {K : Type 0} {order : K → K → Ordering} (o : IsTotalOrder order) where
  -- an entry whose key compares equal has the rows of the key
  pub rows_at-found : (index : List (K × List ℕ)) (key : K) (i : ℕ) (e : K × List ℕ) → IsStrictlySortedBy order (keys_of index) → slice_get index i ≡ Some e → order key e.0 ≡ Equal
      → rows_at order index key ≡ e.1
  rows_at-found index key i e sorted at equal = ap (λ r. unwrap_or r []) (lookup-equal o key index i e sorted at equal)

  -- a key that would stand between two others has no rows
  pub rows_at-gap : (index : List (K × List ℕ)) (key : K) (i : ℕ) → IsStrictlySortedBy order (keys_of index) → IsGapFor order (keys_of index) key i → rows_at order index key ≡ []
  rows_at-gap index key i sorted gap =
      let place = λ (j : ℕ) (e : K × List ℕ) (at : slice_get index j ≡ Some e). slice_get-map (λ (p : K × List ℕ). p.0) index j ∙ ap (option_map (λ (p : K × List ℕ). p.0)) at in
      ap (λ r. unwrap_or r []) (lookup_at_gap o key index i sorted
      (λ j e before at. gap.before j e.0 before (place j e at))
      (λ e at. gap.after i e.0 (omega arith) (place i e at)))

  -- what an index of pairs has for a key are the rows that were added with it
  pub rows_at-index : (added : List (ℕ × K)) (index : List (K × List ℕ)) → IsIndexOf order added index → (key : K) → rows_at order index key ≡ rows_with order added key
  rows_at-index added index is key = ap (λ r. unwrap_or r []) (is.rows key) ∙ unwrap_or-non_empty (rows_with order added key)

  -- the rows of a key ascend
  pub rows_at-ascend : (index : List (K × List ℕ)) (key : K) → IsInOrder order index → IsStrictlyIncreasing (rows_at order index key)
  rows_at-ascend index key ordered = of_found (lookup (λ k. is_eq (order key k)) index) (All-lookup (λ rs. (0 < length rs) × IsStrictlyIncreasing rs) (λ k. is_eq (order key k)) index ordered.rows)
    where
      of_found : (r : Option (List ℕ)) → IfSome r (λ rs. (0 < length rs) × IsStrictlyIncreasing rs) → IsStrictlyIncreasing (unwrap_or r [])
      of_found None has = λ k within. absurd (omega arith)
      of_found (Some rs) has = has.1

  -- where each key has its rows and no entry is empty, the entries are those of the keys that were added
  lookup-from_rows : (index : List (K × List ℕ)) (key : K) (rows : List ℕ) → IsInOrder order index → rows_at order index key ≡ rows → lookup (λ k. is_eq (order key k)) index ≡ non_empty rows
  lookup-from_rows index key rows ordered is =
      of_found (lookup (λ k. is_eq (order key k)) index) (All-lookup (λ rs. (0 < length rs) × IsStrictlyIncreasing rs) (λ k. is_eq (order key k)) index ordered.rows) ∙ ap non_empty is
    where
      of_found : (r : Option (List ℕ)) → IfSome r (λ rs. (0 < length rs) × IsStrictlyIncreasing rs) → r ≡ non_empty (unwrap_or r [])
      of_found None has = refl
      of_found (Some []) has = absurd (omega (arith, has.0))
      of_found (Some (x ∷ xs)) has = refl

  pub any-keys : (q : K) (added : List (ℕ × K)) → list_any (λ p. is_eq (order q p.1)) added ≡ list_any (λ k. is_eq (order q k)) (map (λ p. p.1) added)
  any-keys q [] = refl
  any-keys q (p ∷ ps) = ap (λ b. is_eq (order q p.1) || b) (any-keys q ps)

  pub distinct_keys-count : (added : List (ℕ × K)) → distinct_keys order added ≡ distinct_count (eq_by_cmp order) (map (λ p. p.1) added)
  distinct_keys-count [] = refl
  distinct_keys-count (p ∷ ps) =
      let keys : List K = map (λ r. r.1) ps in
      rw (distinct_keys-count ps, any-keys p.1 ps)
      (elim (list_any (λ k. is_eq (order p.1 k)) keys) as (λ b. cond b (distinct_count (eq_by_cmp order) keys) (distinct_count (eq_by_cmp order) keys + 1)
      ≡ length (cond b (unique_keys (eq_by_cmp order) keys) (p.1 ∷ unique_keys (eq_by_cmp order) keys))) [ true ↦ refl | false ↦ omega arith ])

  -- as many entries as keys were added
  size-from_rows : (added : List (ℕ × K)) (index : List (K × List ℕ)) → IsInOrder order index
      → ((key : K) → lookup (λ k. is_eq (order key k)) index ≡ non_empty (rows_with order added key)) → length index ≡ distinct_keys order added
  size-from_rows added index ordered rows =
      sym (length-keys_of index)
      ∙ length-from_keys (eq_by_cmp_equiv o) (keys_of index) (map (λ p. p.1) added) (IsDistinct-from_sorted order (keys_of index) ordered.keys)
      (λ q. sym (is_some-lookup (λ k. is_eq (order q k)) index) ∙ ap is_some (rows q) ∙ some-rows_with o added q ∙ any-keys q added)
      ∙ sym (distinct_keys-count added)

  -- an index in order that has for each key the rows that were added with it, where those ascend
  pub IsIndexOf-from_rows : (added : List (ℕ × K)) (index : List (K × List ℕ)) → IsInOrder order index → ((key : K) → IsStrictlyIncreasing (rows_with order added key))
      → ((key : K) (row : ℕ) → has_row (rows_at order index key) row ≡ has_row (rows_with order added key) row) → IsIndexOf order added index
  IsIndexOf-from_rows added index ordered ascend members =
      let rows = λ (key : K). lookup-from_rows index key (rows_with order added key) ordered
      (same_rows (rows_at order index key) (rows_with order added key) (rows_at-ascend index key ordered) (ascend key) (members key)) in
      record { rows = rows; size = size-from_rows added index ordered rows }

-- ---- rows that come in order
rows_of-ascend : {K : Type 0} (added : List (ℕ × K)) → IsNonDecreasingBy (λ p. p.0) added → IsNonDecreasing (map (λ p. p.0) added)
rows_of-ascend [] up = λ i j d le within. absurd (omega arith)
rows_of-ascend {K} (p ∷ ps) up = λ i j d le within.
    let row : ℕ × K → ℕ = λ r. r.0 in
    let within_j : j < length (p ∷ ps) = omega (arith, length-map (p ∷ ps) row) in
    let within_i : i < length (p ∷ ps) = omega arith in
    let first = get_or-map row (p ∷ ps) i p d within_i in
    let last = get_or-map row (p ∷ ps) j p d within_j in
    let rises = up i j p le within_j in
    omega (arith, first, last, rises)

sorted_from_non_decreasing : (xs : List ℕ) → IsNonDecreasing xs → IsSorted nat_cmp xs
sorted_from_non_decreasing xs up = λ k d low within.
    not_less (get_or xs k d) (get_or xs (k + 1) d) (up k (k + 1) d (omega arith) within)
  where
    not_less : (x y : ℕ) → x ≤ y → is_lt (nat_cmp y x) ≡ false
    not_less x y le = grind (arith, nat_tests)

-- where rows come in order, those of each key ascend
pub rows_with-ascend : {K : Type 0} (order : K → K → Ordering) (added : List (ℕ × K)) (key : K) → IsNonDecreasingBy (λ p. p.0) added → IsStrictlyIncreasing (rows_with order added key)
rows_with-ascend {K} order added key up =
    let keep : ℕ × K → Bool = λ p. is_eq (order key p.1) in
    IsStrictlyIncreasing-dedup (map (λ (p : ℕ × K). p.0) (filter keep added))
    (sorted_from_non_decreasing (map (λ (p : ℕ × K). p.0) (filter keep added)) (rows_of-ascend (filter keep added) (IsNonDecreasingBy-filter (λ (p : ℕ × K). p.0) keep added up)))

-- ---- members, as a fact and as a test
Contains-from_test : (xs : List ℕ) (row : ℕ) → has_row xs row ≡ true → Contains xs row
Contains-from_test [] row has = cc
Contains-from_test (x ∷ xs) row has =
    elim (x == row) as (λ b. (x == row) ≡ b → (b || has_row xs row) ≡ true → Contains (x ∷ xs) row) [
      | true ↦ λ is _. (0, omega arith, equal x row is)
      | false ↦ λ _ later. let rest = Contains-from_test xs row later in (suc rest.0, omega arith, rest.2)
    ] refl has
  where
    equal : (x y : ℕ) → (x == y) ≡ true → x ≡ y
    equal x y h = grind (arith, nat_tests)

test_from_Contains : (xs : List ℕ) (row : ℕ) → Contains xs row → has_row xs row ≡ true
test_from_Contains [] row (k, within, at) = absurd (omega arith)
test_from_Contains (x ∷ xs) row has = ⊎_elim
    (λ here. ap (λ b. b || has_row xs row) (equal x row here))
    (λ later. elim (x == row) as (λ b. (b || has_row xs row) ≡ true) [ true ↦ refl | false ↦ test_from_Contains xs row later ])
    (Contains-cases x xs row has)
  where
    equal : (x y : ℕ) → x ≡ y → (x == y) ≡ true
    equal x y h = grind (arith, nat_tests)

same_test : (xs ys : List ℕ) (row : ℕ) → (Contains xs row → Contains ys row) → (Contains ys row → Contains xs row) → has_row xs row ≡ has_row ys row
same_test xs ys row there back = both_ways (has_row xs row) (has_row ys row)
    (λ h. test_from_Contains ys row (there (Contains-from_test xs row h)))
    (λ h. test_from_Contains xs row (back (Contains-from_test ys row h)))

-- an index in order whose members for each key are the rows that were added with it, where the rows came in order
pub IsIndexOf-from_members : {K : Type 0} {order : K → K → Ordering} → IsTotalOrder order → (added : List (ℕ × K)) (index : List (K × List ℕ)) → IsInOrder order index
    → IsNonDecreasingBy (λ p. p.0) added → ((key : K) (row : ℕ) → Contains (rows_at order index key) row ↔ WasAddedWith order added key row) → IsIndexOf order added index
IsIndexOf-from_members {K} {order} o added index ordered up members =
    IsIndexOf-from_rows o added index ordered (λ key. rows_with-ascend order added key up)
    (λ key row. same_test (rows_at order index key) (rows_with order added key) row
    (λ h. (Contains-rows_with order key row added).1 ((members key row).0 h))
    (λ h. (members key row).1 ((Contains-rows_with order key row added).0 h)))

-- an index that is carried over is one of the pairs whose rows for each key are those that were carried and those that were added, where they come in order
pub IsIndexOf-carried : {K : Type 0} {order : K → K → Ordering} → IsTotalOrder order → (moved : List (Option ℕ)) (before more after : List (ℕ × K)) (old added new : List (K × List ℕ))
    → IsCarried order moved old added new → IsIndexOf order before old → IsIndexOf order more added → IsNonDecreasingBy (λ p. p.0) after
    → ((key : K) (row : ℕ) → has_row (rows_with order after key) row ≡ (has_row (new_numbers moved (rows_with order before key)) row || has_row (rows_with order more key) row))
    → IsIndexOf order after new
IsIndexOf-carried {K} {order} o moved before more after old added new carried of_old of_added up members =
    IsIndexOf-from_rows o after new carried.in_order (λ key. rows_with-ascend order after key up)
    (λ key row. carried.members key row
    ∙ ap (λ (rs : List ℕ). has_row (new_numbers moved rs) row || has_row (rows_at order added key) row) (rows_at-index o before old of_old key)
    ∙ ap (λ (rs : List ℕ). has_row (new_numbers moved (rows_with order before key)) row || has_row rs row) (rows_at-index o more added of_added key)
    ∙ sym (members key row))
