-- Rows as bits in words of 64 rows each.
use Rattle.std.proofs.Common.{◌≡◌, ◌≢◌, ℕ, ◌+◌, ◌-◌, ◌*◌, ◌/◌, ◌%◌, ◌^◌, ◌<◌, ◌≤◌, ◌==◌, Bool, true, false, List, length, get_or, set, replicate, slice_get, slice_index, Some, ap, sym, ◌∙◌, arith, w64, ⊎_elim, bit_and}
use Rattle.std.proofs.lemmas.Bool.{cases_eq}
use Rattle.std.proofs.lemmas.Bool.Decides.{nat_tests}
use Rattle.std.proofs.lemmas.List.{get_or-replicate, length-replicate, get_or-set_other, get_or-set_same, length-set}
use Rattle.std.proofs.lemmas.List.FromFn.{length-map-range_with_len, get_or-map-range_with_len, fill_by_all}
use Rattle.std.proofs.lemmas.Nat.Bits.{bit_at_clear_same, bit_at_clear_other, bit_at_ones, same_from_bits_below, shr_and_one}
use Rattle.std.proofs.lemmas.Option.{slice_get-get_or}
use Rattle.std.specs.Int.{bit_at, bit_not}
use Rattle.sc_rows.specs.Live.{live_rows}

-- whether the row's bit in these words is one
abbrev pub is_set : List ℕ → ℕ → Bool
is_set words row = bit_at (slice_index words (row / 64)) (row % 64) == 1

pub length-live_rows : (rows : ℕ) (words : List ℕ) → length (live_rows rows words) ≡ rows
length-live_rows rows words = length-map-range_with_len (is_set words) 0 rows

get_or-live_rows : (rows : ℕ) (words : List ℕ) (row : ℕ) (d : Bool) → row < rows → get_or (live_rows rows words) row d ≡ is_set words row
get_or-live_rows rows words row d within = get_or-map-range_with_len (is_set words) 0 rows row row d within (omega arith)

-- the word of a row is among the words
pub place_within : (rows row words : ℕ) → row < rows → rows ≤ 64 * words → row / 64 < words
place_within rows row words below enough = omega arith

pub slice_get-live_rows : (rows : ℕ) (words : List ℕ) (row : ℕ) → row < rows → slice_get (live_rows rows words) row ≡ Some (bit_and (slice_index words (row / 64) / 2 ^ (row % 64)) 1 == 1)
slice_get-live_rows rows words row below =
    slice_get-get_or (live_rows rows words) row false (rw (length-live_rows rows words) below)
    ∙ ap Some (get_or-live_rows rows words row false below ∙ ap (λ b. b == 1) (sym (shr_and_one (slice_index words (row / 64)) (row % 64))))

-- a row below the length of what stands for the words is one of theirs
pub row_within : (rows row : ℕ) (words : List ℕ) (live : List Bool) → live_rows rows words ≡ live → row < length live → row < rows
row_within rows row words live same below =
    let all : length live ≡ rows = ap length (sym same) ∙ length-live_rows rows words in
    omega (arith, all, below)

pub live_rows-ones : (rows count : ℕ) → rows ≤ 64 * count → live_rows rows (replicate count (2 ^ 64 - 1)) ≡ replicate rows true
live_rows-ones rows count enough =
    sym (fill_by_all (is_set (replicate count (2 ^ 64 - 1))) (replicate rows true) rows false (length-replicate rows true)
    (λ row below.
    let here : slice_index (replicate count (2 ^ 64 - 1)) (row / 64) ≡ 2 ^ 64 - 1 = get_or-replicate count (row / 64) (2 ^ 64 - 1) 0 (place_within rows row count below enough) in
    let small : row % 64 < 64 = omega arith in
    get_or-replicate rows row true false below
    ∙ sym (ap (λ word. bit_at word (row % 64) == 1) here ∙ ap (λ b. b == 1) (bit_at_ones 64 (row % 64) small))))

module _ (rows : ℕ) (words : List ℕ) (row : ℕ) (below : row < rows) (enough : rows ≤ 64 * length words) where
  abbrev word : ℕ
  word = slice_index words (row / 64)

  abbrev cleared : ℕ
  cleared = bit_and word (bit_not w64 (1 * 2 ^ (row % 64) % 2 ^ 64))

  small : row % 64 < 64
  small = omega arith

  within : row / 64 < length words
  within = place_within rows row (length words) below enough

  is_set-cleared : is_set (set words (row / 64) cleared) row ≡ false
  is_set-cleared =
      let here = get_or-set_same words (row / 64) cleared 0 within in
      ap (λ w. bit_at w (row % 64) == 1) here ∙ ap (λ b. b == 1) (bit_at_clear_same w64 word (row % 64) small)

  is_set-other : (other : ℕ) → other ≢ row → is_set (set words (row / 64) cleared) other ≡ is_set words other
  is_set-other other apart = ⊎_elim
      (λ (same : other / 64 ≡ row / 64).
      let bits : other % 64 ≢ row % 64 = omega arith in
      let low : other % 64 < 64 = omega arith in
      let here : slice_index (set words (row / 64) cleared) (other / 64) ≡ cleared = rw same (get_or-set_same words (row / 64) cleared 0 within) in
      ap (λ w. bit_at w (other % 64) == 1) here ∙ ap (λ b. b == 1) (bit_at_clear_other w64 word (row % 64) small (other % 64) low bits)
      ∙ ap (λ at. bit_at (slice_index words at) (other % 64) == 1) (sym same))
      (λ differ. ap (λ w. bit_at w (other % 64) == 1) (get_or-set_other words (row / 64) (other / 64) cleared 0 differ))
      (cases_eq (other / 64) (row / 64))

  -- to clear a row's bit changes that row alone
  pub live_rows-set : live_rows rows (set words (row / 64) cleared) ≡ set (live_rows rows words) row false
  live_rows-set =
      let old = live_rows rows words in
      let here : row < length old = rw (length-live_rows rows words) below in
      sym (fill_by_all (is_set (set words (row / 64) cleared)) (set old row false) rows false (length-set old row false ∙ length-live_rows rows words)
      (λ other low. ⊎_elim
      (λ (same : other ≡ row). rw same (get_or-set_same old row false false here ∙ sym is_set-cleared))
      (λ apart. get_or-set_other old row other false false apart ∙ get_or-live_rows rows words other false low ∙ sym (is_set-other other apart))
      (cases_eq other row)))

-- ---- the 64 rows of a word
module _ (rows : ℕ) (words : List ℕ) (row : ℕ) (first : row % 64 ≡ 0) (enough : row + 64 ≤ rows) where
  set-found : (other : ℕ) → other < rows → slice_get (live_rows rows words) other ≡ Some (is_set words other)
  set-found other below =
      slice_get-get_or (live_rows rows words) other false (rw (length-live_rows rows words) below) ∙ ap Some (get_or-live_rows rows words other false below)

  -- where it has ones alone, they are live
  pub live-from_ones : slice_index words (row / 64) ≡ 2 ^ 64 - 1 → (other : ℕ) → row ≤ other → other < row + 64 → slice_get (live_rows rows words) other ≡ Some true
  live-from_ones ones other after before =
      let same : other / 64 ≡ row / 64 = omega (arith, first, after, before) in
      let low : other % 64 < 64 = omega arith in
      set-found other (omega (arith, before, enough))
      ∙ ap (λ at. Some (bit_at (slice_index words at) (other % 64) == 1)) same
      ∙ ap (λ w. Some (bit_at w (other % 64) == 1)) ones
      ∙ ap (λ b. Some (b == 1)) (bit_at_ones 64 (other % 64) low)

  is_one : (n : ℕ) → (n == 1) ≡ true → n ≡ 1
  is_one n is = grind (arith, nat_tests)

  -- where they are live, it has ones alone
  pub ones-from_live : slice_index words (row / 64) < 2 ^ 64 → ((other : ℕ) → row ≤ other → other < row + 64 → slice_get (live_rows rows words) other ≡ Some true)
      → slice_index words (row / 64) ≡ 2 ^ 64 - 1
  ones-from_live low_word live =
      same_from_bits_below 64 (slice_index words (row / 64)) (2 ^ 64 - 1) low_word (omega arith)
      (λ i low.
      let place : (row + i) / 64 ≡ row / 64 = omega (arith, first, low) in
      let bit : (row + i) % 64 ≡ i = omega (arith, first, low) in
      let found = sym (set-found (row + i) (omega (arith, low, enough))) ∙ live (row + i) (omega arith) (omega (arith, low)) in
      let is : is_set words (row + i) ≡ true = cc in
      is_one (bit_at (slice_index words (row / 64)) i)
      (sym (ap (λ at. bit_at (slice_index words at) ((row + i) % 64) == 1) place ∙ ap (λ b. bit_at (slice_index words (row / 64)) b == 1) bit) ∙ is)
      ∙ sym (bit_at_ones 64 i low))
