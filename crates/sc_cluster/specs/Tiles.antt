-- Ranges side by side. A range is a pair of its least and its greatest number.
use Rattle.std.specs.Prelude.{◌≡◌, ◌⊎◌, ℕ, ℤ, pos, ◌+ℤ◌, ◌≤ℤ◌, List, count_by}
use Rattle.sc_hash.specs.Range.{IsWithin}
use Rattle.sc_hash.specs.Bounds.{contains}

-- how many of the ranges have the number
abbrev pub holders : ℤ → List (ℤ × ℤ) → ℕ
holders h ranges = count_by (contains h) ranges

-- the ranges tile the one from min to max: each of its numbers is in exactly one of them, and no other number is in any
pub record Tiles (ranges : List (ℤ × ℤ)) (min max : ℤ) : Type 0 where
  pub inside : (h : ℤ) → IsWithin min max h → holders h ranges ≡ 1
  pub outside : (h : ℤ) → ¬ IsWithin min max h → holders h ranges ≡ 0

-- a range lies between min and max, and its least number, and the one after its greatest, if that isn't max, are each in
-- exactly one of the ranges; where this holds of each range, and min is in one, they tile, since no range begins or ends
-- anywhere else
pub record IsTile (ranges : List (ℤ × ℤ)) (min max : ℤ) (range : ℤ × ℤ) : Type 0 where
  pub low : min ≤ℤ range.0
  pub high : range.1 ≤ℤ max
  pub start : holders range.0 ranges ≡ 1
  pub next : (range.1 ≡ max) ⊎ (holders (range.1 +ℤ pos 1) ranges ≡ 1)
