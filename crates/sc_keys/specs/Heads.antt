-- A head for keys that ascend by their bytes, and the tops of heads.
use Rattle.std.specs.Prelude.{◌≡◌, ℕ, zero, suc, ◌+◌, ◌*◌, ◌/◌, ◌<◌, ◌^◌, nat_lt, if◌then◌else◌, List, [], ◌∷◌, length, slice_get}

-- the number that so many first bytes make, the first of them worth most, with zeros after fewer bytes; what is no byte makes it 2^64 or more
abbrev pub front_number : ℕ → List ℕ → ℕ
front_number zero bytes = 0
front_number (suc n) [] = 0
front_number (suc n) (byte ∷ bytes) = (if nat_lt byte 256 then 256 ^ n * byte else 2 ^ 64) + front_number n bytes

-- these are the heads with the numbers 31, 63, 95 and so on, of each 32 heads the last one
pub record AreTops (heads tops : List ℕ) : Type 0 where
  pub count : length tops ≡ length heads / 32
  pub each : (block : ℕ) → block < length tops → slice_get tops block ≡ slice_get heads (32 * block + 31)
