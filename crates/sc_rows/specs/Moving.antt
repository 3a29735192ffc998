-- What becomes of the numbers of rows when some rows change.
use Rattle.std.specs.Prelude.{◌≡◌, ◌==◌, ℕ, ◌-◌, ◌^◌, ◌<◌, ◌≤◌, Bool, true, if◌then◌else◌, List, All, length, map, slice_get, slice_index_or, slice_range, Option, None, Some}
use Rattle.std.specs.List.{filter_map}
use Rattle.std.specs.List.Sorted.{IsStrictlyIncreasing}

-- the new number that a number of 32 bits stands for, of which the greatest stands for none
abbrev pub number_meant : ℕ → Option ℕ
number_meant number = if number == 2 ^ 32 - 1 then None else Some number

-- the new numbers that these stand for
abbrev pub numbers_meant : List ℕ → List (Option ℕ)
numbers_meant numbers = map number_meant numbers

-- the new number of a row: none where the list has none for it, or doesn't reach it
abbrev pub new_number : List (Option ℕ) → ℕ → Option ℕ
new_number moved row = slice_index_or moved row None

-- the new numbers of these rows, without those that have none
abbrev pub new_numbers : List (Option ℕ) → List ℕ → List ℕ
new_numbers moved rows = filter_map (new_number moved) rows

-- each of these rows has a new number
abbrev pub AreKept : List (Option ℕ) → List ℕ → Type 0
AreKept moved rows = length (new_numbers moved rows) ≡ length rows

-- these rows keep their numbers
abbrev pub AreOwn : List (Option ℕ) → List ℕ → Type 0
AreOwn moved rows = All (λ row. new_number moved row ≡ Some row) rows

-- the rows from one place up to another keep their numbers, and there are at least those up to a place between
pub record IsOwnRun (moved : List (Option ℕ)) (rows : List ℕ) (from to end : ℕ) : Type 0 where
  pub reaches : to ≤ end
  pub within : end ≤ length rows
  pub own : AreOwn moved (slice_range rows from end)

-- the keys from one place up to another are told to stay
abbrev pub AllStay : List Bool → ℕ → ℕ → Type 0
AllStay stays from to = (i : ℕ) → from ≤ i → i < to → slice_get stays i ≡ Some true

-- the new numbers ascend as the old ones do
abbrev pub KeepsOrder : List (Option ℕ) → Type 0
KeepsOrder moved = IsStrictlyIncreasing (filter_map (λ number. number) moved)
