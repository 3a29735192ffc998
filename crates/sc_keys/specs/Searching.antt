-- Where a key stands among others that ascend.
use Rattle.std.specs.Prelude.{◌≡◌, ℕ, ◌<◌, ◌≤◌, List, length, slice_get, Result, Ok, Err, Some}
use Rattle.std.specs.declared.cmp.Ordering.{Ordering}
use Rattle.std.specs.declared.cmp.Ordering.TheVariants.{Less, Equal, Greater}

module _ {K : Type 0} (order : K → K → Ordering) where
  -- the key there compares equal
  abbrev pub StandsAt : List K → K → ℕ → Type 0
  StandsAt keys key at = (found : K) × (slice_get keys at ≡ Some found) × (order key found ≡ Equal)

  -- the keys before this place are below the key, and all others above it
  pub record IsGapFor (keys : List K) (key : K) (at : ℕ) : Type 0 where
    pub within : at ≤ length keys
    pub before : (i : ℕ) (k : K) → i < at → slice_get keys i ≡ Some k → order key k ≡ Greater
    pub after : (i : ℕ) (k : K) → at ≤ i → slice_get keys i ≡ Some k → order key k ≡ Less

  -- the keys before the first place are below the key, and those from the second one on above it
  pub record IsRangeFor (keys : List K) (key : K) (low high : ℕ) : Type 0 where
    pub before : (i : ℕ) (k : K) → i < low → slice_get keys i ≡ Some k → order key k ≡ Greater
    pub after : (i : ℕ) (k : K) → high ≤ i → slice_get keys i ≡ Some k → order key k ≡ Less

  -- what a search answers: where the key stands, or else where it would have to stand
  abbrev pub IsKeyPlace : List K → K → Result ℕ ℕ → Type 0
  IsKeyPlace keys key (Ok at) = StandsAt keys key at
  IsKeyPlace keys key (Err at) = IsGapFor keys key at
