-- Lists of rows, and what is kept of two of them.
use Rattle.std.specs.Prelude.{◌≡◌, ◌==◌, ◌<◌, ℕ, Bool, not, ◌&&◌, ◌||◌, List, All, length, take}
use Rattle.std.specs.List.{list_any}
use Rattle.std.specs.List.Sorted.{IsStrictlyIncreasing}
use Rattle.sc_rows.specs.declared.joining.Kept.{Kept}
use Rattle.sc_rows.specs.declared.joining.Kept.TheVariants.{Both, Either, LeftAlone}
use Rattle.sc_rows.specs.declared.start.Start.{Start}

-- whether a row is in the list
abbrev pub has_row : List ℕ → ℕ → Bool
has_row rows row = list_any (λ r. r == row) rows

-- the rows end before the number
abbrev pub EndBefore : List ℕ → ℕ → Type 0
EndBefore rows end = All (λ row. row < end) rows

-- the rows of two lists end before the number
abbrev pub BothEndBefore : (left right : List ℕ) → ℕ → Type 0
BothEndBefore left right end = EndBefore left end × EndBefore right end

-- whether a row is kept, by whether it is in the left list and in the right one
abbrev pub keeps : Kept → (left right : Bool) → Bool
keeps Both left right = left && right
keeps Either left right = left || right
keeps LeftAlone left right = left && not right

-- the rows that two lists give: ascending, each row that is kept, and no other
pub record IsJoin (how : Kept) (left right rows : List ℕ) : Type 0 where
  pub members : (row : ℕ) → has_row rows row ≡ keeps how (has_row left row) (has_row right row)
  pub ascending : IsStrictlyIncreasing rows

-- how many rows a list has, and the first of them, at most so many
pub record IsStart (most : ℕ) (rows : List ℕ) (start : Start) : Type 0 where
  pub count : start.count ≡ length rows
  pub first : start.rows.items ≡ take most rows
