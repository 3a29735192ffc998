-- Which rows a list of rows has, where it is the list of a key's rows.
use Rattle.std.proofs.Common.{◌≡◌, ℕ, ◌==◌, Bool, true, false, cond, ◌&&◌, ◌||◌, List, [], ◌∷◌, map, filter, refl, sym, ap, ◌∙◌, arith}
use Rattle.std.proofs.lemmas.Bool.Decides.{nat_tests}
use Rattle.std.specs.List.{dedup, dedup_from, list_any}
use Rattle.std.specs.Ordering.{is_eq}
use Rattle.std.specs.declared.cmp.Ordering.{Ordering}
use Rattle.sc_rows.specs.Joining.{has_row}
use Rattle.sc_segment.proofs.RowsLemmas.{same}
use Rattle.sc_segment.specs.Index.{rows_with}

same-equal : (x y : ℕ) → same y x ≡ true → y ≡ x
same-equal x y h = grind (arith, nat_tests)

or-same : (a b c : Bool) → a ≡ b → (a || c) ≡ (a || (b || c))
or-same true b c h = refl
or-same false true c h = cc
or-same false false c h = refl

has_row-dedup_from : (row x : ℕ) (xs : List ℕ) → has_row (dedup_from same x xs) row ≡ has_row (x ∷ xs) row
has_row-dedup_from row x [] = refl
has_row-dedup_from row x (y ∷ ys) =
    elim (same y x) as (λ b. same y x ≡ b → has_row (cond b (dedup_from same x ys) (x ∷ dedup_from same y ys)) row ≡ has_row (x ∷ y ∷ ys) row) [
      | true ↦ λ h.
          has_row-dedup_from row x ys
          ∙ or-same (x == row) (y == row) (has_row ys row) (ap (λ z. z == row) (sym (same-equal x y h)))
      | false ↦ λ h. ap (λ b. (x == row) || b) (has_row-dedup_from row y ys)
    ] refl

has_row-dedup : (row : ℕ) (xs : List ℕ) → has_row (dedup same xs) row ≡ has_row xs row
has_row-dedup row [] = refl
has_row-dedup row (x ∷ xs) = has_row-dedup_from row x xs

has_row-kept : {K : Type 0} (keep : K → Bool) (row : ℕ) (added : List (ℕ × K))
    → has_row (map (λ (p : ℕ × K). p.0) (filter (λ (p : ℕ × K). keep p.1) added)) row
    ≡ list_any (λ (p : ℕ × K). (p.0 == row) && keep p.1) added
has_row-kept keep row [] = refl
has_row-kept {K} keep row (p ∷ ps) =
    elim (keep p.1) as (λ b. has_row (map (λ (r : ℕ × K). r.0) (cond b (p ∷ filter (λ (r : ℕ × K). keep r.1) ps) (filter (λ (r : ℕ × K). keep r.1) ps))) row
    ≡ (((p.0 == row) && b) || list_any (λ (r : ℕ × K). (r.0 == row) && keep r.1) ps)) [
      | true ↦ elim (p.0 == row) as (λ e. (e || has_row (map (λ (r : ℕ × K). r.0) (filter (λ (r : ℕ × K). keep r.1) ps)) row)
          ≡ ((e && true) || list_any (λ (r : ℕ × K). (r.0 == row) && keep r.1) ps)) [
            | true ↦ refl
            | false ↦ has_row-kept keep row ps
          ]
      | false ↦ elim (p.0 == row) as (λ e. has_row (map (λ (r : ℕ × K). r.0) (filter (λ (r : ℕ × K). keep r.1) ps)) row
          ≡ ((e && false) || list_any (λ (r : ℕ × K). (r.0 == row) && keep r.1) ps)) [
            | true ↦ has_row-kept keep row ps
            | false ↦ has_row-kept keep row ps
          ]
    ]

-- a row is among those of a key just where it was added with a key that compares equal
pub has_row-rows_with : {K : Type 0} (order : K → K → Ordering) (added : List (ℕ × K)) (key : K) (row : ℕ)
    → has_row (rows_with order added key) row ≡ list_any (λ (p : ℕ × K). (p.0 == row) && is_eq (order key p.1)) added
has_row-rows_with {K} order added key row =
    has_row-dedup row (map (λ (p : ℕ × K). p.0) (filter (λ (p : ℕ × K). is_eq (order key p.1)) added))
    ∙ has_row-kept (λ k. is_eq (order key k)) row added
