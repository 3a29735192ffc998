-- The parts of a cut range tile it.
use Rattle.std.proofs.Common.{◌≡◌, ◌≢◌, ℕ, zero, suc, ◌+◌, ◌-◌, ◌*◌, ◌/◌, ◌^◌, ◌<◌, ◌≤◌, ℤ, pos, negsuc, ◌+ℤ◌, ◌-ℤ◌, ◌≤ℤ◌, ◌<ℤ◌, Bool, true, false, cond, unsigned_abs, FitsSigned, w32, inl, inr, refl, sym, ◌∙◌, ap, subst, arith, add-one}
use Rattle.std.specs.Prelude.{nat_le}
use Rattle.std.proofs.lemmas.Int.{ints}
use Rattle.std.proofs.lemmas.Nat.{le-div}
use Rattle.std.proofs.lemmas.Bool.{cases_eq, cases_lt, eq-eqb, ne_eqb, le-leb, lt-leb, leb-true}
use Rattle.std.proofs.lemmas.List.Sums.{sum_by_push}
use Rattle.std.proofs.Math.Nat.{div-le_self, div-mul-le_self, div-le_of_le-mul, mul-div_right, mul-le-mul_right}
use Rattle.sc_hash.specs.Range.{size_of, IsWithin}
use Rattle.sc_hash.specs.Bounds.{contains}
use Rattle.sc_cluster.specs.Tiles.{Tiles, holders}
use Rattle.sc_cluster.specs.Cut.{rounded_down, share_start, border, part, first_parts, cut}

-- ---- shares of a size
-- the first share begins at 0
share-first : (s n : ℕ) → 0 * s / n ≡ 0
share-first s n = omega (arith, div-le_self (0 * s) n)

-- no share begins above the whole
pub share-le : (s n i : ℕ) → i ≤ n → i * s / n ≤ s
share-le s n i le = div-le_of_le-mul n (mul-le-mul_right s le)

-- where n times d are no more than the whole, each share has d of it
share-step : (s n i d : ℕ) → 1 ≤ n → n * d ≤ s → i * s / n + d ≤ (i + 1) * s / n
share-step s n i d one few = le-div (i * s / n + d) ((i + 1) * s) n one (omega (arith, div-mul-le_self (i * s) n))

-- ---- the cases of a border
-- the first part begins where the range does
pub border-first : (min max : ℤ) (n i : ℕ) → i ≡ 0 → border min max n i ≡ min
unfolding border
border-first min max n i first = rw (eq-eqb i 0 first) refl

-- after the last part the range has ended
pub border-last : (min max : ℤ) (n i : ℕ) → i ≢ 0 → n ≤ i → border min max n i ≡ max +ℤ pos 1
unfolding border
border-last min max n i later last = rw (ne_eqb i 0 later, le-leb n i last) refl

-- a large part between them begins at a multiple of 2 ^ 16
pub border-large : (min max : ℤ) (n i : ℕ) → i ≢ 0 → i < n → n * 2 ^ 20 ≤ unsigned_abs (size_of min max) → border min max n i ≡ rounded_down (share_start min max n i)
unfolding border
border-large min max n i later more large = rw (ne_eqb i 0 later, lt-leb n i more, le-leb (n * 2 ^ 20) (unsigned_abs (size_of min max)) large) refl

-- a small part between them begins where its share does
pub border-small : (min max : ℤ) (n i : ℕ) → i ≢ 0 → i < n → unsigned_abs (size_of min max) < n * 2 ^ 20 → border min max n i ≡ share_start min max n i
unfolding border
border-small min max n i later more small = rw (ne_eqb i 0 later, lt-leb n i more, lt-leb (n * 2 ^ 20) (unsigned_abs (size_of min max)) small) refl

-- ---- borders ascend
-- a number is at most so much below another, and not above it
record IsNear (low high : ℤ) (far : ℕ) : Type 0 where
  pub below : low ≤ℤ high
  pub near : high ≤ℤ (low +ℤ pos far)

-- a number is at most 2 ^ 16 - 1 above what it is rounded down to
rounded_down-near : (z : ℤ) → IsNear (rounded_down z) z (2 ^ 16 - 1)
rounded_down-near (pos a) = record { below = omega (arith, ints); near = omega (arith, ints) }
rounded_down-near (negsuc a) = record { below = omega (arith, ints); near = omega (arith, ints) }

-- how far below its share's start a part may begin
abbrev slack : ℕ → ℕ → ℕ
slack n s = cond (nat_le (n * 2 ^ 20) s) (2 ^ 16 - 1) 0

-- each share has room for it, and for one number more
slack-le : (n s : ℕ) → n ≤ s → n * (slack n s + 1) ≤ s
slack-le n s few = by (nat_le (n * 2 ^ 20) s) refl where
  by : (t : Bool) → nat_le (n * 2 ^ 20) s ≡ t → n * (cond t (2 ^ 16 - 1) 0 + 1) ≤ s
  by true e = omega (arith, leb-true (n * 2 ^ 20) s e)
  by false e = omega arith

-- as many numbers stand from the least to one above the greatest as the range has
size_of-is : (min max : ℤ) (n : ℕ) → pos n ≤ℤ size_of min max → (max +ℤ pos 1 ≡ min +ℤ pos (unsigned_abs (size_of min max))) × (n ≤ unsigned_abs (size_of min max))
size_of-is min max n size = (omega (arith, ints), omega (arith, ints))

-- a border is that near to its share's start
border-near : (min max : ℤ) (n i : ℕ) → 1 ≤ n → i ≤ n → pos n ≤ℤ size_of min max → IsNear (border min max n i) (share_start min max n i) (slack n (unsigned_abs (size_of min max)))
border-near min max n i one le size = elim (cases_eq i 0) [ inl first ↦ at_first first | inr later ↦ elim (cases_lt i n) [ inl more ↦ between later more | inr last ↦ at_last later last ] ] where
  s : ℕ
  s = unsigned_abs (size_of min max)

  start : ℤ
  start = share_start min max n i

  at_first : i ≡ 0 → IsNear (border min max n i) start (slack n s)
  at_first first =
      let e = border-first min max n i first in
      let none : i * s / n ≡ 0 = ap (λ j. j * s / n) first ∙ share-first s n in
      record { below = omega (arith, ints); near = omega (arith, ints) }

  at_last : i ≢ 0 → n ≤ i → IsNear (border min max n i) start (slack n s)
  at_last later last =
      let e = border-last min max n i later last in
      let same : i ≡ n = omega arith in
      let all : i * s / n ≡ s = ap (λ j. j * s / n) same ∙ mul-div_right s one in
      let ends = (size_of-is min max n size).0 in
      record { below = omega (arith, ints); near = omega (arith, ints) }

  between : i ≢ 0 → i < n → IsNear (border min max n i) start (slack n s)
  between later more = elim (cases_lt s (n * 2 ^ 20)) [
    | inl small ↦
        let e = border-small min max n i later more small in
        record { below = omega (arith, ints); near = omega (arith, ints) }
    | inr large ↦
        let e = border-large min max n i later more large in
        let far : slack n s ≡ 2 ^ 16 - 1 = rw (le-leb (n * 2 ^ 20) s large) refl in
        let near = subst (IsNear (rounded_down start) start) (sym far) (rounded_down-near start) in
        subst (λ low. IsNear low start (slack n s)) (sym e) near
  ]

-- each border stands below the next
pub border-lt : (min max : ℤ) (n i : ℕ) → i < n → pos n ≤ℤ size_of min max → border min max n i <ℤ border min max n (i + 1)
border-lt min max n i lt size =
    let s = unsigned_abs (size_of min max) in
    let here = border-near min max n i (omega arith) (omega arith) size in
    let next = border-near min max n (i + 1) (omega arith) (omega arith) size in
    let step = share-step s n i (slack n s + 1) (omega arith) (slack-le n s (size_of-is min max n size).1) in
    by _ _ _ _ _ _ here.below next.near step where
      by : (a b low : ℤ) (x y far : ℕ) → a ≤ℤ (low +ℤ pos x) → (low +ℤ pos y) ≤ℤ (b +ℤ pos far) → x + (far + 1) ≤ y → a <ℤ b
      by a b low x y far p q r = omega (arith, ints)

-- no border stands below the range
le-border : (min max : ℤ) (n i : ℕ) → i ≤ n → pos n ≤ℤ size_of min max → min ≤ℤ border min max n i
le-border min max n zero le size = let e = border-first min max n 0 refl in omega (arith, ints)
le-border min max n (suc i) le size =
    let before = le-border min max n i (omega arith) size in
    let step = ap (border min max n) (add-one i) in
    let next = border-lt min max n i (omega arith) size in
    omega (arith, ints)

-- no border stands further than right after the range
border-le : (min max : ℤ) (n i : ℕ) → 1 ≤ n → i ≤ n → pos n ≤ℤ size_of min max → border min max n i ≤ℤ (max +ℤ pos 1)
border-le min max n i one le size =
    let s = unsigned_abs (size_of min max) in
    let here = border-near min max n i one le size in
    let all = size_of-is min max n size in
    let few = share-le s n i le in
    by _ _ _ _ _ here.below few all.0 where
      by : (a low high : ℤ) (x s : ℕ) → a ≤ℤ (low +ℤ pos x) → x ≤ s → high ≡ low +ℤ pos s → a ≤ℤ high
      by a low high x s p q r = omega (arith, ints)

-- a border is a number of 32 bits or right after them
pub border-bounded : (min max : ℤ) (n i : ℕ) → 1 ≤ n → i ≤ n → pos n ≤ℤ size_of min max → FitsSigned w32 min → FitsSigned w32 max → IsWithin (negsuc (2 ^ 31 - 1)) (pos (2 ^ 31)) (border min max n i)
border-bounded min max n i one le size low_fits high_fits =
    let low = le-border min max n i le size in
    let high = border-le min max n i one le size in
    (omega (arith, ints), omega (arith, ints))

-- ---- ranges side by side
-- what a test counts
abbrev count_of : Bool → ℕ
count_of t = cond t 1 0

-- a range that ends before it begins has no number
contains-empty : (h a : ℤ) → count_of (contains h (a, a -ℤ pos 1)) ≡ 0
contains-empty h a = grind (arith, ints)

-- of two ranges side by side one has what the two have together
contains-joined : (h a b c : ℤ) → a ≤ℤ b → b ≤ℤ c → count_of (contains h (a, b -ℤ pos 1)) + count_of (contains h (b, c -ℤ pos 1)) ≡ count_of (contains h (a, c -ℤ pos 1))
contains-joined h a b c p q = grind (arith, ints)

-- a range that ends right before a border has the numbers up to there, and no other
contains-inside : (h a b c : ℤ) → b ≡ c +ℤ pos 1 → IsWithin a c h → count_of (contains h (a, b -ℤ pos 1)) ≡ 1
contains-inside h a b c e p = grind (arith, ints)

contains-outside : (h a b c : ℤ) → b ≡ c +ℤ pos 1 → ¬ IsWithin a c h → count_of (contains h (a, b -ℤ pos 1)) ≡ 0
contains-outside h a b c e p = grind (arith, ints)

-- the first k parts hold what stands below border k, each once
holders-first_parts : (min max : ℤ) (n k : ℕ) (h : ℤ) → k ≤ n → pos n ≤ℤ size_of min max → holders h (first_parts min max n k) ≡ count_of (contains h (min, border min max n k -ℤ pos 1))
holders-first_parts min max n zero h le size = rw (border-first min max n 0 refl) (sym (contains-empty h min))
holders-first_parts min max n (suc k) h le size =
    let before = holders-first_parts min max n k h (omega arith) size in
    let low = le-border min max n k (omega arith) size in
    let next = border-lt min max n k (omega arith) size in
    sum_by_push (λ r. count_of (contains h r)) (first_parts min max n k) (part min max n k)
    ∙ ap (λ m. m + count_of (contains h (part min max n k))) before
    ∙ contains-joined h min (border min max n k) (border min max n (k + 1)) low (omega (arith, ints))
    ∙ ap (λ i. count_of (contains h (min, border min max n i -ℤ pos 1))) (add-one k)

-- the parts of a range that has a number for each of them tile it
pub cut_tiles : (min max : ℤ) (n : ℕ) → 1 ≤ n → pos n ≤ℤ size_of min max → Tiles (cut min max n) min max
cut_tiles min max n one size =
    let last = border-last min max n n (omega arith) (omega arith) in
    let all = λ (h : ℤ). holders-first_parts min max n n h (omega arith) size in
    record {
      inside = λ h within. all h ∙ contains-inside h min _ max last within;
      outside = λ h without. all h ∙ contains-outside h min _ max last without;
    }
