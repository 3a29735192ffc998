-- Rows that ascend, and rows that come again.
use Rattle.std.proofs.Common.{◌≡◌, ℕ, ◌+◌, ◌-◌, ◌<◌, ◌≤◌, ◌==◌, ◌≢◌, Bool, false, List, [], ◌∷◌, ◌++◌, length, All, slice_get, Some, refl, ap, arith}
use native.Mathlib.Numerals.{unary_clauses}
use Rattle.std.proofs.lemmas.Bool.Decides.{nat_tests}
use Rattle.std.proofs.lemmas.Map.Keys.{sorted_head, sorted_tail, sorted_from_strictly_increasing}
use Rattle.std.proofs.lemmas.Option.{slice_get_within, get_or_from_slice_get}
use Rattle.std.specs.declared.cmp.Ordering.TheVariants.{Less}
use Rattle.std.specs.List.{dedup, dedup_from}
use Rattle.std.specs.List.Sorted.{IsStrictlyIncreasing, IsStrictlySortedBy}
use Rattle.std.specs.Ordering.{nat_cmp}
use Rattle.sc_rows.proofs.JoinLemmas.{AscendFrom, ascend_from_increasing, increasing_from_ascend}

-- whether two rows are one
abbrev pub same : ℕ → ℕ → Bool
same x y = x == y

differs_from_less : (x y : ℕ) → nat_cmp x y ≡ Less → same y x ≡ false
differs_from_less x y less = grind (arith, nat_tests)

dedup_from-sorted : (x : ℕ) (xs : List ℕ) → IsStrictlySortedBy nat_cmp (x ∷ xs) → dedup_from same x xs ≡ x ∷ xs
dedup_from-sorted x [] up = refl
dedup_from-sorted x (y ∷ ys) up =
    let apart = differs_from_less x y (sorted_head nat_cmp x (y ∷ ys) up).0 in
    rw apart (ap (λ zs. x ∷ zs) (dedup_from-sorted y ys (sorted_tail nat_cmp x (y ∷ ys) up)))

-- rows that ascend have none that comes again
pub dedup-increasing : (xs : List ℕ) → IsStrictlyIncreasing xs → dedup same xs ≡ xs
dedup-increasing [] up = refl
dedup-increasing (x ∷ xs) up = dedup_from-sorted x xs (sorted_from_strictly_increasing (x ∷ xs) up)

dedup_from-again : (x : ℕ) (xs : List ℕ) (row : ℕ) → IsStrictlySortedBy nat_cmp (x ∷ xs) → slice_get (x ∷ xs) (length xs) ≡ Some row
    → dedup_from same x (xs ++ row ∷ []) ≡ x ∷ xs
dedup_from-again x [] row up last = grind (arith, nat_tests)
dedup_from-again x (y ∷ ys) row up last =
    let apart = differs_from_less x y (sorted_head nat_cmp x (y ∷ ys) up).0 in
    rw apart (ap (λ zs. x ∷ zs) (dedup_from-again y ys row (sorted_tail nat_cmp x (y ∷ ys) up) last))

-- the last row, put at the end once more, is dropped
pub dedup-again : (xs : List ℕ) (row : ℕ) → IsStrictlyIncreasing xs → slice_get xs (length xs - 1) ≡ Some row
    → dedup same (xs ++ row ∷ []) ≡ xs
dedup-again [] row up last = grind arith
dedup-again (x ∷ xs) row up last =
    let at_end : slice_get (x ∷ xs) (length xs) ≡ Some row = simp unary_clauses at last in
    dedup_from-again x xs row (sorted_from_strictly_increasing (x ∷ xs) up) at_end

ascend-push : (low : ℕ) (xs : List ℕ) (row last : ℕ) → AscendFrom low xs → slice_get xs (length xs - 1) ≡ Some last → last < row → AscendFrom low (xs ++ row ∷ [])
ascend-push low [] row last up at_end above = cc
ascend-push low (x ∷ []) row last up at_end above =
    let one : Some x ≡ Some last = at_end in
    let same : x ≡ last = cc in
    (up.0, (omega (arith, same, above), tt))
ascend-push low (x ∷ y ∷ ys) row last up at_end above =
    let there : slice_get (y ∷ ys) (length ys) ≡ Some last = simp unary_clauses at at_end in
    let later : slice_get (y ∷ ys) (length (y ∷ ys) - 1) ≡ Some last = simp unary_clauses there in
    (up.0, ascend-push (x + 1) (y ∷ ys) row last up.1 later above)

-- a row above the last one keeps them ascending
pub increasing-push : (xs : List ℕ) (row last : ℕ) → IsStrictlyIncreasing xs → slice_get xs (length xs - 1) ≡ Some last → last < row → IsStrictlyIncreasing (xs ++ row ∷ [])
increasing-push xs row last up at_end above = increasing_from_ascend 0 (xs ++ row ∷ []) (ascend-push 0 xs row last (ascend_from_increasing xs up) at_end above)

-- where no row is above this one, and the last one is not it, the last one is below it
pub last_below : (xs : List ℕ) (row last : ℕ) → All (λ r. r ≤ row) xs → slice_get xs (length xs - 1) ≡ Some last → last ≢ row → last < row
last_below xs row last all at_end apart =
    let within : length xs - 1 < length xs = slice_get_within xs (length xs - 1) last at_end in
    let value = get_or_from_slice_get xs (length xs - 1) last last at_end in
    let bound = all (length xs - 1) last within in
    omega (arith, value, bound, apart)
