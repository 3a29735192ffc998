-- Rows that are looked for in a list by marks.
use Rattle.std.specs.Prelude.{◌≡◌, ℕ, ◌<◌, Bool, true, false, not, cond, List, Some, length, filter, slice_get}
use Rattle.sc_rows.specs.declared.sifting.Sieve.{Sieve}
use Rattle.sc_rows.specs.declared.joining.Kept.{Kept}
use Rattle.sc_rows.specs.Joining.{has_row, keeps, EndBefore}

-- of the rows below an end, which is above all rows of the list, those are marked that the list has not
pub record IsSieve (rows : List ℕ) (sieve : Sieve) : Type 0 where
  pub below : EndBefore rows (length sieve.absent)
  pub marks : (row : ℕ) → row < length sieve.absent → slice_get sieve.absent row ≡ Some (not (has_row rows row))

-- the rows are below the end of the sieve, so that they can be looked for in it
abbrev pub CanBeSifted : Sieve → List ℕ → Type 0
CanBeSifted sieve rows = EndBefore rows (length sieve.absent)

-- of these rows those that the others have, or those that they have not
abbrev pub sifted : (others : List ℕ) → Bool → List ℕ → List ℕ
sifted others wanted rows = filter (λ row. cond wanted (has_row others row) (not (has_row others row))) rows

-- of two lists those rows of the left one are kept that the right one has, or those that it has not, and no others
pub record KeepsOfLeft (how : Kept) (wanted : Bool) : Type 0 where
  pub left : (in_right : Bool) → keeps how true in_right ≡ cond wanted in_right (not in_right)
  pub others : (in_right : Bool) → keeps how false in_right ≡ false
