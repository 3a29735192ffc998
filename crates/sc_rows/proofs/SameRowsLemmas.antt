-- Two lists of rows that ascend and have the same rows are one list.
use Rattle.std.proofs.Common.{◌≡◌, ℕ, ◌+◌, ◌==◌, Bool, true, false, ◌||◌, true≢false, List, [], ◌∷◌, refl, sym, ap, ◌∙◌, arith}
use Rattle.std.proofs.lemmas.Bool.Decides.{nat_tests}
use Rattle.std.specs.List.Sorted.{IsStrictlyIncreasing}
use Rattle.std.specs.Ordering.{nat_cmp}
use Rattle.std.specs.declared.cmp.Ordering.{Ordering}
use Rattle.std.specs.declared.cmp.Ordering.TheVariants.{Less, Equal, Greater}
use Rattle.sc_rows.specs.Joining.{has_row}
use Rattle.sc_rows.proofs.JoinLemmas.{AscendFrom, ascend_from_increasing, less_from_cmp, equal_from_cmp, greater_from_cmp, none_below}

itself : (x : ℕ) → (x == x) ≡ true
itself x = grind (arith, nat_tests)

equal_rows : (x y : ℕ) → (x == y) ≡ true → x ≡ y
equal_rows x y h = grind (arith, nat_tests)

-- a list has its first row
has_first : (x : ℕ) (xs : List ℕ) → has_row (x ∷ xs) x ≡ true
has_first x xs = ap (λ b. b || has_row xs x) (itself x)

-- lists with one first row have the same rows after it
same_rest : (x : ℕ) (xs ys : List ℕ) → AscendFrom (x + 1) xs → AscendFrom (x + 1) ys
    → ((row : ℕ) → has_row (x ∷ xs) row ≡ has_row (x ∷ ys) row) → (row : ℕ) → has_row xs row ≡ has_row ys row
same_rest x xs ys left right same row = by_first (x == row) refl
  where
    by_first : (b : Bool) → (x == row) ≡ b → has_row xs row ≡ has_row ys row
    by_first true is =
        let one = equal_rows x row is in
        none_below row (x + 1) xs (omega (arith, one)) left ∙ sym (none_below row (x + 1) ys (omega (arith, one)) right)
    by_first false is =
        ap (λ b. b || has_row xs row) (sym is) ∙ same row ∙ ap (λ b. b || has_row ys row) is

same_from : (low : ℕ) (xs ys : List ℕ) → AscendFrom low xs → AscendFrom low ys → ((row : ℕ) → has_row xs row ≡ has_row ys row) → xs ≡ ys
same_from low [] [] left right same = refl
same_from low [] (y ∷ ys) left right same = absurd (true≢false (sym (has_first y ys) ∙ sym (same y)))
same_from low (x ∷ xs) [] left right same = absurd (true≢false (sym (has_first x xs) ∙ same x))
same_from low (x ∷ xs) (y ∷ ys) left right same =
    by_order (λ others up rest. same_from (x + 1) xs others left.1 up (same_rest x xs others left.1 up rest)) (nat_cmp x y) refl
  where
    by_order : ((others : List ℕ) → AscendFrom (x + 1) others → ((row : ℕ) → has_row (x ∷ xs) row ≡ has_row (x ∷ others) row) → xs ≡ others)
        → (o : Ordering) → nat_cmp x y ≡ o → x ∷ xs ≡ y ∷ ys
    by_order tails Less is =
        let lt = less_from_cmp x y is in
        absurd (true≢false (sym (has_first x xs) ∙ same x ∙ none_below x y (y ∷ ys) (omega (arith, lt)) (omega arith, right.1)))
    by_order tails Equal is =
        let one = equal_from_cmp x y is in
        let up = rw (← one) at right.1 in
        let rest = rw (← one) at same in
        rw (← one) (ap (λ (zs : List ℕ). x ∷ zs) (tails ys up rest))
    by_order tails Greater is =
        let lt = greater_from_cmp x y is in
        absurd (true≢false (sym (has_first y ys) ∙ sym (same y) ∙ none_below y x (x ∷ xs) (omega (arith, lt)) (omega arith, left.1)))

pub same_rows : (xs ys : List ℕ) → IsStrictlyIncreasing xs → IsStrictlyIncreasing ys → ((row : ℕ) → has_row xs row ≡ has_row ys row) → xs ≡ ys
same_rows xs ys left right same = same_from 0 xs ys (ascend_from_increasing xs left) (ascend_from_increasing ys right) same
