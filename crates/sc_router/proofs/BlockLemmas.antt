-- The hashes with given upper bits are a range of signed numbers.
use Rattle.std.proofs.Common.{◌≡◌, ℕ, suc, ◌+◌, ◌-◌, ◌*◌, ◌/◌, ◌%◌, ◌^◌, ◌<◌, ◌≤◌, ℤ, ◌≤ℤ◌, pos, negsuc, w32, to_z, of_z, sym, ap, subst, ◌∙◌, arith, ◌⊎◌, inl, inr}
use Rattle.std.specs.Prelude.{◌↔◌}
use Rattle.std.specs.Int.RustNames.{FitsSigned}
use Rattle.std.proofs.lemmas.Int.{ints, to_z_pos}
use Rattle.std.proofs.Math.Facts.{to_z-neg}
use Rattle.std.proofs.lemmas.Bool.{cases_lt}
use Rattle.std.proofs.lemmas.Nat.{pow_pos, pow-add, shr_below, mod_below, le-div, div_below, div-add-mod'}
use Rattle.std.proofs.Math.Nat.{mul-le-mul_right, suc-mul, div-eq_of_lt}
use Rattle.sc_hash.specs.Range.{IsWithin}

-- the numbers of a block are those with its number as their quotient
in_block : (q m u : ℕ) → 0 < m → q * m ≤ u → u < q * m + m → u / m ≡ q
in_block q m u p low high =
    let least : q ≤ u / m = le-div q u m p low in
    let most : u / m < suc q = div_below u m (suc q) p (omega (arith, suc-mul q m)) in
    omega arith

of_block : (q m u : ℕ) → 0 < m → u / m ≡ q → (q * m ≤ u) × (u < q * m + m)
of_block q m u p e =
    let split : q * m + u % m ≡ u = ap (λ x. x * m + u % m) (sym e) ∙ div-add-mod' u m in
    let rest = mod_below u m p in
    (omega arith, omega arith)

-- a block of 32-bit numbers of which one bit at least is fixed lies within one half of them
pub record IsBlock32 (base m : ℕ) : Type 0 where
  pub whole : base + m ≤ 2 ^ 32
  pub half : (base + m ≤ 2 ^ 31) ⊎ (2 ^ 31 ≤ base)

next_row : (q h m : ℕ) → q < h → q * m + m ≤ h * m
next_row q h m lt = omega (arith, suc-mul q m, mul-le-mul_right m lt)

IsBlock32-at : (n k : ℕ) → n < 2 ^ 32 → k < 32 → IsBlock32 (n / 2 ^ k * 2 ^ k) (2 ^ k)
IsBlock32-at n k fits lt =
    let m = 2 ^ k in
    let q = n / 2 ^ k in
    let all : (32 - k) + k ≡ 32 = omega arith in
    let most : (31 - k) + k ≡ 31 = omega arith in
    let rows : 2 ^ (32 - k) * m ≡ 2 ^ 32 = sym (pow-add 2 (32 - k) k) ∙ ap (λ i. 2 ^ i) all in
    let half_rows : 2 ^ (31 - k) * m ≡ 2 ^ 31 = sym (pow-add 2 (31 - k) k) ∙ ap (λ i. 2 ^ i) most in
    let below : q < 2 ^ (32 - k) = shr_below n (32 - k) k (subst (λ i. n < 2 ^ i) (sym all) fits) in
    record {
      whole = omega (arith, next_row q (2 ^ (32 - k)) m below, rows);
      half = by_half (cases_lt q (2 ^ (31 - k))) half_rows;
    } where
      by_half : (n / 2 ^ k < 2 ^ (31 - k)) ⊎ (2 ^ (31 - k) ≤ n / 2 ^ k) → 2 ^ (31 - k) * 2 ^ k ≡ 2 ^ 31 → (n / 2 ^ k * 2 ^ k + 2 ^ k ≤ 2 ^ 31) ⊎ (2 ^ 31 ≤ n / 2 ^ k * 2 ^ k)
      by_half (inl low) e = inl (omega (arith, next_row (n / 2 ^ k) (2 ^ (31 - k)) (2 ^ k) low, e))
      by_half (inr high) e = inr (omega (arith, mul-le-mul_right (2 ^ k) high, e))

-- a number in the upper half, read as a signed one
to_z_upper : (n : ℕ) → 2 ^ 31 ≤ n → n < 2 ^ 32 → to_z w32 n ≡ negsuc (2 ^ 32 - suc n)
to_z_upper n low high =
    let same : n ≡ 2 ^ 32 - suc (2 ^ 32 - suc n) = omega arith in
    ap (to_z w32) same ∙ to_z-neg w32 (2 ^ 32 - suc n) (omega arith)

-- a block's first and last number, read as signed ones
abbrev IsEnds : ℕ → ℕ → Type 0
IsEnds base m =
    ((to_z w32 base ≡ pos base) × (to_z w32 (base + (m - 1)) ≡ pos (base + (m - 1))) × (base + m ≤ 2 ^ 31))
    ⊎ ((to_z w32 base ≡ negsuc (2 ^ 32 - suc base)) × (to_z w32 (base + (m - 1)) ≡ negsuc (2 ^ 32 - suc (base + (m - 1)))) × (2 ^ 31 ≤ base))

ends_of : (base m : ℕ) → 0 < m → IsBlock32 base m → IsEnds base m
ends_of base m p b = by_half b.half where
  by_half : (base + m ≤ 2 ^ 31) ⊎ (2 ^ 31 ≤ base) → IsEnds base m
  by_half (inl low) = inl (to_z_pos w32 base (omega arith), to_z_pos w32 (base + (m - 1)) (omega arith), low)
  by_half (inr high) = let whole = b.whole in inr (to_z_upper base high (omega arith), to_z_upper (base + (m - 1)) (omega arith) (omega arith), high)

-- so its first number is below its last
pub block_ordered : (base m : ℕ) → 0 < m → IsBlock32 base m → to_z w32 base ≤ℤ to_z w32 (base + (m - 1))
block_ordered base m p b = by_ends (ends_of base m p b) where
  by_ends : IsEnds base m → to_z w32 base ≤ℤ to_z w32 (base + (m - 1))
  by_ends (inl (first, last, low)) = rw (first, last) (omega (arith, ints))
  by_ends (inr (first, last, high)) = let whole = b.whole in rw (first, last) (omega (arith, ints))

-- and the numbers between them are the block's
abbrev IsInBlock : ℕ → ℕ → ℤ → Type 0
IsInBlock base m h = (base ≤ of_z w32 h) × (of_z w32 h < base + m)

block_between : (base m : ℕ) (h : ℤ) → 0 < m → IsBlock32 base m → FitsSigned w32 h → IsWithin (to_z w32 base) (to_z w32 (base + (m - 1))) h → IsInBlock base m h
block_between base m h p b fits w = by_ends h fits w (ends_of base m p b) where
  by_ends : (z : ℤ) → FitsSigned w32 z → IsWithin (to_z w32 base) (to_z w32 (base + (m - 1))) z → IsEnds base m → IsInBlock base m z
  by_ends (pos n) f k (inl (first, last, low)) = let i = rw (first, last) at k in (omega (arith, ints, i.0), omega (arith, ints, i.1))
  by_ends (pos n) f k (inr (first, last, high)) = let i = rw (first, last) at k in (omega (arith, ints, i.0, i.1), omega (arith, ints, i.0, i.1))
  by_ends (negsuc n) f k (inl (first, last, low)) = let i = rw (first, last) at k in (omega (arith, ints, i.0, i.1), omega (arith, ints, i.0, i.1))
  by_ends (negsuc n) f k (inr (first, last, high)) = let i = rw (first, last) at k in let small = f.sfits in let whole = b.whole in (omega (arith, ints, i.0, i.1), omega (arith, ints, i.0, i.1))

between_block : (base m : ℕ) (h : ℤ) → 0 < m → IsBlock32 base m → FitsSigned w32 h → IsInBlock base m h → IsWithin (to_z w32 base) (to_z w32 (base + (m - 1))) h
between_block base m h p b fits u = by_ends h fits u (ends_of base m p b) where
  by_ends : (z : ℤ) → FitsSigned w32 z → IsInBlock base m z → IsEnds base m → IsWithin (to_z w32 base) (to_z w32 (base + (m - 1))) z
  by_ends (pos n) f k (inl (first, last, low)) = rw (first, last) (omega (arith, ints, k.0), omega (arith, ints, k.1))
  by_ends (pos n) f k (inr (first, last, high)) = let small = f.sfits in absurd (omega (arith, k.0))
  by_ends (negsuc n) f k (inl (first, last, low)) = let small = f.sfits in absurd (omega (arith, k.1))
  by_ends (negsuc n) f k (inr (first, last, high)) = let small = f.sfits in let whole = b.whole in rw (first, last) (omega (arith, ints, k.0, k.1), omega (arith, ints, k.0, k.1))

-- the hashes under fixed upper bits
pub within_iff : (n k : ℕ) (h : ℤ) → n < 2 ^ 32 → k < 32 → FitsSigned w32 h → IsWithin (to_z w32 (n / 2 ^ k * 2 ^ k)) (to_z w32 (n / 2 ^ k * 2 ^ k + (2 ^ k - 1))) h ↔ (of_z w32 h / 2 ^ k ≡ n / 2 ^ k)
within_iff n k h fits lt signed =
    let p = pow_pos k in
    let b = IsBlock32-at n k fits lt in (
      λ w. let u = block_between (n / 2 ^ k * 2 ^ k) (2 ^ k) h p b signed w in in_block (n / 2 ^ k) (2 ^ k) (of_z w32 h) p u.0 u.1,
      λ e. let u = of_block (n / 2 ^ k) (2 ^ k) (of_z w32 h) p e in between_block (n / 2 ^ k * 2 ^ k) (2 ^ k) h p b signed u,
    )

pub ordered_at : (n k : ℕ) → n < 2 ^ 32 → k < 32 → to_z w32 (n / 2 ^ k * 2 ^ k) ≤ℤ to_z w32 (n / 2 ^ k * 2 ^ k + (2 ^ k - 1))
ordered_at n k fits lt = block_ordered (n / 2 ^ k * 2 ^ k) (2 ^ k) (pow_pos k) (IsBlock32-at n k fits lt)

-- where no bit is fixed, every hash is under the route
pub all_within : (h : ℤ) → FitsSigned w32 h → IsWithin (negsuc (2 ^ 31 - 1)) (pos (2 ^ 31 - 1)) h
all_within h fits = (omega (arith, ints), omega (arith, ints))

pub all_open : (n : ℕ) (h : ℤ) → n < 2 ^ 32 → FitsSigned w32 h → of_z w32 h / 2 ^ 32 ≡ n / 2 ^ 32
all_open n h fits signed = let small : of_z w32 h < 2 ^ 32 = omega (arith, ints) in div-eq_of_lt small ∙ sym (div-eq_of_lt fits)
