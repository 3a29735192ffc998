-- The number of the first bytes goes with the order of texts.
use Rattle.std.proofs.Common.{◌≡◌, ℕ, zero, suc, ◌+◌, ◌*◌, ◌^◌, ◌<◌, ◌≤◌, Bool, true, false, cond, List, [], ◌∷◌, refl, sym, ap, ◌∙◌, arith, mul-le-mul_left, pow-suc, ⊎_elim, ◌⊎◌, inl, inr}
use Rattle.std.proofs.lemmas.Bool.{cases_lt, cases_eq, ltb-true}
use Rattle.std.specs.Cmp.{nat_cmp_is}
use Rattle.std.specs.Cmp.Lexicographic.{slice_cmp}
use Rattle.std.specs.Ordering.{nat_cmp, ordering_then}
use Rattle.std.specs.Prelude.{nat_lt}
use Rattle.std.specs.declared.cmp.Ordering.{Ordering}
use Rattle.std.specs.declared.cmp.Ordering.TheVariants.{Less, Equal}
use Rattle.sc_keys.specs.Heads.{front_number}

power-positive : (n : ℕ) → 0 < 256 ^ n
power-positive zero = omega arith
power-positive (suc n) =
    let before = power-positive n in
    let more = pow-suc 256 n in
    omega (arith, before, more)

-- a number of n bytes is below 256 ^ n
more-below : (p b u : ℕ) (s : Bool) → (s ≡ true → b < 256) → (u < 2 ^ 64 → u < p) → cond s (p * b) (2 ^ 64) + u < 2 ^ 64 → cond s (p * b) (2 ^ 64) + u < p * 256
more-below p b u true is_b below fits =
    let byte : b < 256 = is_b refl in
    let low : u < p = below (omega (arith, fits)) in
    let most : p * (b + 1) ≤ p * 256 = mul-le-mul_left p (omega (arith, byte)) in
    omega (arith, low, most)
more-below p b u false is_b below fits = absurd (omega (arith, fits))

front_number-below : (n : ℕ) (bytes : List ℕ) → front_number n bytes < 2 ^ 64 → front_number n bytes < 256 ^ n
front_number-below zero bytes fits = omega arith
front_number-below (suc n) [] fits = power-positive (suc n)
front_number-below (suc n) (byte ∷ bytes) fits =
    let low = more-below (256 ^ n) byte (front_number n bytes) (nat_lt byte 256) (ltb-true byte 256) (front_number-below n bytes) fits in
    let more = pow-suc 256 n in
    omega (arith, low, more)

-- of two bytes with a number below p each, the lesser pair is lesser by its byte, or else by its number
by_first : (p a b u v : ℕ) (s t : Bool) → (s ≡ true → a < 256) → (t ≡ true → b < 256) → (u < 2 ^ 64 → u < p) → (v < 2 ^ 64 → v < p)
    → cond t (p * b) (2 ^ 64) + v < 2 ^ 64 → cond s (p * a) (2 ^ 64) + u < cond t (p * b) (2 ^ 64) + v
    → (v < 2 ^ 64) × ((a < b) ⊎ ((a ≡ b) × (u < v)))
by_first p a b u v false t is_a is_b below_u below_v fits less = absurd (omega (arith, fits, less))
by_first p a b u v true false is_a is_b below_u below_v fits less = absurd (omega (arith, fits))
by_first p a b u v true true is_a is_b below_u below_v fits less =
    let fits_v : v < 2 ^ 64 = omega (arith, fits) in
    let fits_u : u < 2 ^ 64 = omega (arith, fits, less) in
    let low_u : u < p = below_u fits_u in
    let low_v : v < p = below_v fits_v in (
      fits_v,
      ⊎_elim
          (λ (same : a ≡ b). let equal : p * a ≡ p * b = ap (λ (n : ℕ). p * n) same in inr (same, omega (arith, less, equal)))
          (λ differ. ⊎_elim
          (λ (above : b < a). let most : p * (b + 1) ≤ p * a = mul-le-mul_left p (omega (arith, above)) in absurd (omega (arith, most, less, low_v)))
          (λ not_above. inl (omega (arith, differ, not_above)))
          (cases_lt b a))
          (cases_eq a b),
    )

-- of two texts the one with the lesser number is the lesser one
front_number-less : (n : ℕ) (xs ys : List ℕ) → front_number n ys < 2 ^ 64 → front_number n xs < front_number n ys → slice_cmp nat_cmp xs ys ≡ Less
front_number-less zero xs ys fits less = absurd (omega (arith, less))
front_number-less (suc n) [] [] fits less = absurd (omega (arith, less))
front_number-less (suc n) [] (y ∷ ys) fits less = refl
front_number-less (suc n) (x ∷ xs) [] fits less = absurd (omega (arith, less))
front_number-less (suc n) (x ∷ xs) (y ∷ ys) fits less =
    let split = by_first (256 ^ n) x y (front_number n xs) (front_number n ys) (nat_lt x 256) (nat_lt y 256) (ltb-true x 256) (ltb-true y 256) (front_number-below n xs) (front_number-below n ys) fits less in
    ⊎_elim
    (λ (below : x < y). ap (λ (o : Ordering). ordering_then o (slice_cmp nat_cmp xs ys)) (sym (nat_cmp_is x y Less below)))
    (λ (later : (x ≡ y) × (front_number n xs < front_number n ys)).
    ap (λ (o : Ordering). ordering_then o (slice_cmp nat_cmp xs ys)) (sym (nat_cmp_is x y Equal later.0)) ∙ front_number-less n xs ys split.0 later.1)
    split.1

-- and so it is, whatever decides between two texts that are the same
pub front_number-first : (n : ℕ) (xs ys : List ℕ) (later : Ordering) → front_number n ys < 2 ^ 64 → front_number n xs < front_number n ys → ordering_then (slice_cmp nat_cmp xs ys) later ≡ Less
front_number-first n xs ys later fits less = ap (λ (o : Ordering). ordering_then o later) (front_number-less n xs ys fits less)
