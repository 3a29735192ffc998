-- An index of the pairs so far, after one pair more.
use Rattle.std.proofs.Common.{◌≡◌, ℕ, ◌+◌, Bool, true, false, cond, if◌then◌else◌, List, [], ◌∷◌, ◌++◌, map, filter, ◌||◌, append-nil, Some, is_some, unwrap_or, refl, ap, sym, ◌∙◌, arith}
use Rattle.std.proofs.lemmas.Cmp.{eq_by_cmp_equiv}
use Rattle.std.proofs.lemmas.List.Elements.{filter-append, filter_agree}
use Rattle.std.proofs.lemmas.List.{map-append}
use Rattle.std.proofs.lemmas.List.Folds.{list_any-append}
use Rattle.std.specs.Cmp.{IsTotalOrder, IsEquivalence}
use Rattle.std.specs.declared.cmp.Ordering.{Ordering}
use Rattle.std.specs.List.{dedup, dedup_from, list_any}
use Rattle.std.specs.Ordering.{is_eq, eq_by_cmp}
use Rattle.sc_segment.proofs.RowsLemmas.{same}
use Rattle.sc_segment.specs.Filing.{FilesRow}
use Rattle.sc_segment.specs.Index.{IsIndexOf, rows_with, distinct_keys, non_empty}

pub unwrap_or-non_empty : (xs : List ℕ) → unwrap_or (non_empty xs) [] ≡ xs
unwrap_or-non_empty [] = refl
unwrap_or-non_empty (x ∷ xs) = refl

-- ---- one row more at the end, before or after rows that come again are dropped
starts_with-dedup_from : (x : ℕ) (xs : List ℕ) → (rest : List ℕ) × (dedup_from same x xs ≡ x ∷ rest)
starts_with-dedup_from x [] = ([], refl)
starts_with-dedup_from x (y ∷ ys) =
    elim (same y x) as (λ b. (rest : List ℕ) × (cond b (dedup_from same x ys) (x ∷ dedup_from same y ys) ≡ x ∷ rest))
    [ true ↦ starts_with-dedup_from x ys | false ↦ (dedup_from same y ys, refl) ]

some-dedup_from : (x : ℕ) (xs : List ℕ) → non_empty (dedup_from same x xs) ≡ Some (dedup_from same x xs)
some-dedup_from x xs = let h = starts_with-dedup_from x xs in rw h.1 refl

-- what a row was put to isn't empty
pub some-dedup_push : (xs : List ℕ) (row : ℕ) → non_empty (dedup same (xs ++ row ∷ [])) ≡ Some (dedup same (xs ++ row ∷ []))
some-dedup_push [] row = refl
some-dedup_push (x ∷ xs) row = some-dedup_from x (xs ++ row ∷ [])

dedup-dedup_from_push : (x : ℕ) (xs : List ℕ) (row : ℕ) → dedup same (dedup_from same x xs ++ row ∷ []) ≡ dedup_from same x (xs ++ row ∷ [])
dedup-dedup_from_push x [] row = refl
dedup-dedup_from_push x (y ∷ ys) row =
    let head = starts_with-dedup_from y ys in
    let rest = dedup-dedup_from_push y ys row in
    let P : Bool → Type 0 = λ b. b ≡ same y x → dedup same (cond b (dedup_from same x ys) (x ∷ dedup_from same y ys) ++ row ∷ []) ≡ cond b (dedup_from same x (ys ++ row ∷ [])) (x ∷ dedup_from same y (ys ++ row ∷ [])) in
    elim (same y x) as P [
      | true ↦ λ _. dedup-dedup_from_push x ys row
      | false ↦ λ apart.
          let kept : dedup_from same x ((y ∷ head.0) ++ row ∷ []) ≡ x ∷ dedup_from same y (head.0 ++ row ∷ []) = rw (sym apart) refl in
          rw head.1 (kept ∙ ap (λ zs. x ∷ zs) (rw head.1 at rest))
    ] refl

pub dedup-dedup_push : (xs : List ℕ) (row : ℕ) → dedup same (dedup same xs ++ row ∷ []) ≡ dedup same (xs ++ row ∷ [])
dedup-dedup_push [] row = refl
dedup-dedup_push (x ∷ xs) row = dedup-dedup_from_push x xs row

-- ---- the rows of a key
module _ {K : Type 0} {order : K → K → Ordering} (o : IsTotalOrder order) where
  laws : IsEquivalence (eq_by_cmp order)
  laws = eq_by_cmp_equiv o

  rows_with-push : (added : List (ℕ × K)) (row : ℕ) (key q : K) → rows_with order (added ++ (row, key) ∷ []) q
      ≡ (if is_eq (order q key) then dedup same (rows_with order added q ++ row ∷ []) else rows_with order added q)
  rows_with-push added row key q =
      let keep : ℕ × K → Bool = λ p. is_eq (order q p.1) in
      let first : ℕ × K → ℕ = λ p. p.0 in
      ap (λ ps. dedup same (map first ps)) (filter-append keep added ((row, key) ∷ []))
      ∙ elim (is_eq (order q key)) as (λ b. dedup same (map first (filter keep added ++ cond b ((row, key) ∷ []) [])) ≡ cond b (dedup same (rows_with order added q ++ row ∷ [])) (rows_with order added q)) [
        | true ↦ ap (dedup same) (map-append first (filter keep added) ((row, key) ∷ [])) ∙ sym (dedup-dedup_push (map first (filter keep added)) row)
        | false ↦ ap (λ ps. dedup same (map first ps)) (append-nil (filter keep added))
      ]

  rows_with-equal : (added : List (ℕ × K)) (key q : K) → is_eq (order q key) ≡ true → rows_with order added q ≡ rows_with order added key
  rows_with-equal added key q equal =
      ap (λ ps. dedup same (map (λ p. p.0) ps)) (filter_agree (λ (p : ℕ × K). is_eq (order q p.1)) (λ p. is_eq (order key p.1)) (λ p. laws.congr q key p.1 equal) added)

  pub some-rows_with : (added : List (ℕ × K)) (key : K) → is_some (non_empty (rows_with order added key)) ≡ list_any (λ p. is_eq (order key p.1)) added
  some-rows_with [] key = refl
  some-rows_with (p ∷ ps) key =
      elim (is_eq (order key p.1)) as (λ b. is_some (non_empty (dedup same (map (λ r. r.0) (cond b (p ∷ filter (λ r. is_eq (order key r.1)) ps) (filter (λ r. is_eq (order key r.1)) ps))))) ≡ (b || list_any (λ r. is_eq (order key r.1)) ps)) [
        | true ↦ ap is_some (some-dedup_from p.0 (map (λ r. r.0) (filter (λ r. is_eq (order key r.1)) ps)))
        | false ↦ some-rows_with ps key
      ]

  -- ---- the number of distinct keys
  any_agree : (p q : ℕ × K → Bool) → ((x : ℕ × K) → p x ≡ q x) → (xs : List (ℕ × K)) → list_any p xs ≡ list_any q xs
  any_agree p q agree [] = refl
  any_agree p q agree (x ∷ xs) = rw (agree x, any_agree p q agree xs) refl

  count_more : (any_key any_p e e' : Bool) (d : ℕ) → e' ≡ e → (e ≡ true → any_p ≡ any_key)
      → cond (any_p || (e || false)) (d + cond any_key 0 1) (d + cond any_key 0 1 + 1) ≡ cond any_p d (d + 1) + cond (e' || any_key) 0 1
  count_more true true true e' d same_e agree = rw same_e (omega arith)
  count_more true false true e' d same_e agree = cc (agree refl)
  count_more false true true e' d same_e agree = cc (agree refl)
  count_more false false true e' d same_e agree = rw same_e (omega arith)
  count_more true true false e' d same_e agree = rw same_e (omega arith)
  count_more true false false e' d same_e agree = rw same_e (omega arith)
  count_more false true false e' d same_e agree = rw same_e (omega arith)
  count_more false false false e' d same_e agree = rw same_e (omega arith)

  distinct_keys-push : (added : List (ℕ × K)) (row : ℕ) (key : K) → distinct_keys order (added ++ (row, key) ∷ [])
      ≡ distinct_keys order added + cond (list_any (λ p. is_eq (order key p.1)) added) 0 1
  distinct_keys-push [] row key = refl
  distinct_keys-push (p ∷ ps) row key =
      let any_key = list_any (λ r. is_eq (order key r.1)) ps in
      let any_p = list_any (λ r. is_eq (order p.1 r.1)) ps in
      let counted : cond (list_any (λ r. is_eq (order p.1 r.1)) (ps ++ (row, key) ∷ [])) (distinct_keys order (ps ++ (row, key) ∷ [])) (distinct_keys order (ps ++ (row, key) ∷ []) + 1)
      ≡ cond any_p (distinct_keys order ps) (distinct_keys order ps + 1) + cond (is_eq (order key p.1) || any_key) 0 1 =
      rw (list_any-append (λ r. is_eq (order p.1 r.1)) ps ((row, key) ∷ []), distinct_keys-push ps row key)
      (count_more any_key any_p (is_eq (order p.1 key)) (is_eq (order key p.1)) (distinct_keys order ps) (laws.symm key p.1)
      (λ equal. any_agree (λ r. is_eq (order p.1 r.1)) (λ r. is_eq (order key r.1)) (λ r. laws.congr p.1 key r.1 equal) ps)) in
      counted

  -- an index to which a row is filed is the index of the pairs with that row and key
  pub IsIndexOf-push : (added : List (ℕ × K)) (row : ℕ) (key : K) (old new : List (K × List ℕ)) → FilesRow order row key old new
      → IsIndexOf order added old → IsIndexOf order (added ++ (row, key) ∷ []) new
  IsIndexOf-push added row key old new filed index = record {
    rows = λ q. filed.lists q ∙ rw (laws.symm key q, rows_with-push added row key q, index.rows key, unwrap_or-non_empty, index.rows q) (
        elim (is_eq (order q key)) as (λ b. is_eq (order q key) ≡ b → cond b (Some (dedup same (rows_with order added key ++ row ∷ []))) (non_empty (rows_with order added q)) ≡ non_empty (cond b (dedup same (rows_with order added q ++ row ∷ [])) (rows_with order added q))) [
          | true ↦ λ equal. sym (some-dedup_push (rows_with order added q) row ∙ ap (λ rs. Some (dedup same (rs ++ row ∷ []))) (rows_with-equal added key q equal))
          | false ↦ λ _. refl
        ] refl);
    size = filed.size ∙ rw (index.size, index.rows key, some-rows_with added key, distinct_keys-push added row key) refl;
  }
