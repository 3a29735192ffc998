-- How a short text lies in a value, and how two of them compare by words.
use Rattle.std.specs.Prelude.{◌≡◌, ℕ, ◌+◌, ◌-◌, ◌≤◌, List, [], ◌∷◌, ◌++◌, length, take, replicate, slice_index, IsUtf8}
use Rattle.std.specs.Int.{w64, from_be_bytes}
use Rattle.std.specs.Ordering.{nat_cmp, ordering_then}
use Rattle.std.specs.declared.cmp.Ordering.{Ordering}

-- a text with zeros after it, so many bytes in all
abbrev pub padded : ℕ → List ℕ → List ℕ
padded count text = text ++ replicate (count - length text) 0

-- the first so many of 14 bytes are a text, and zeros follow it
pub record IsShort (count : ℕ) (bytes : List ℕ) : Type 0 where
  pub few : count ≤ 14
  pub utf8 : ∥ IsUtf8 (take count bytes) ∥₁
  pub zeros : bytes ≡ padded 14 (take count bytes)

-- the number that eight bytes from a place on spell, the greatest first
abbrev pub eight_bytes_at : List ℕ → ℕ → ℕ
eight_bytes_at bytes at = from_be_bytes w64
    (slice_index bytes at ∷ slice_index bytes (at + 1) ∷ slice_index bytes (at + 2) ∷ slice_index bytes (at + 3)
    ∷ slice_index bytes (at + 4) ∷ slice_index bytes (at + 5) ∷ slice_index bytes (at + 6) ∷ slice_index bytes (at + 7) ∷ [])

-- 14 bytes compare as their first eight, and where these are alike as their last eight
abbrev pub words_cmp : List ℕ → List ℕ → Ordering
words_cmp xs ys = ordering_then (nat_cmp (eight_bytes_at xs 0) (eight_bytes_at ys 0)) (nat_cmp (eight_bytes_at xs 6) (eight_bytes_at ys 6))
