-- How the files that a house has, those that are out and those that are back change, by the number of their bucket.
use Rattle.std.specs.Prelude.{◌≡◌, ◌≢◌, ℕ, Bool, not, ◌&&◌, nat_lt, List, length, slice_get, Option, Some, is_some, IfSome}
use Rattle.std.specs.Option.{option_flatten}

-- at this number stands the value, and at every other number what stood there
pub record SetsAt {A : Type 0} (number : ℕ) (value : A) (old new : ℕ → A) : Type 0 where
  pub here : new number ≡ value
  pub elsewhere : (other : ℕ) → other ≢ number → new other ≡ old other

-- the same of what stands at each number where that is told, which it goes on to be
abbrev pub SetsTold : {A : Type 0} → ℕ → A → (old new : Option (ℕ → A)) → Type 0
SetsTold {A} number value old new = IfSome old (λ before. (after : ℕ → A) × (new ≡ Some after) × SetsAt number value before after)

-- what stands at each number is as it was
abbrev pub AreAsBefore : {A : Type 0} → (old new : ℕ → A) → Type 0
AreAsBefore old new = (number : ℕ) → new number ≡ old number

-- what stands in the list at a number, where something does
abbrev pub found_at : {A : Type 0} → List (Option A) → ℕ → Option A
found_at all number = option_flatten (slice_get all number)

-- of the files that are to be given and those that are back, neither list has the one of this number, which is a number of theirs
abbrev pub is_out : {A : Type 0} → (files back : List (Option A)) → ℕ → Bool
is_out files back number = nat_lt number (length files) && not (is_some (found_at files number)) && not (is_some (found_at back number))
