-- Journals, and the places of entries in them, as plain lists.
use Rattle.std.specs.Prelude.{◌≡◌, ◌⊎◌, ℕ, ◌<◌, List, [], ◌∷◌, ◌++◌, length, Option, Some, nat_lt, if◌then◌else◌}
use Rattle.std.specs.List.{All, Contains}
use Rattle.std.specs.List.Sorted.{IsStrictlyIncreasing}
use mathlib.Core.List.{IsPrefix}

-- no place is in both lists
abbrev pub AreDisjoint : List ℕ → List ℕ → Type 0
AreDisjoint xs ys = (p : ℕ) → Contains xs p → Contains ys p → ⊥

-- the places ascend, and each is the place of an entry of the journal
pub record ArePlacesIn {E : Type 0} (places : List ℕ) (journal : List E) : Type 0 where
  pub ascend : IsStrictlyIncreasing places
  pub inside : All (λ p. p < length journal) places

-- a place inserted among others, in order
abbrev pub inserted : List ℕ → ℕ → List ℕ
inserted [] p = p ∷ []
inserted (x ∷ xs) p = if nat_lt p x then (p ∷ x ∷ xs) else (x ∷ inserted xs p)

-- the places of both lists, in order
abbrev pub merged_places : List ℕ → List ℕ → List ℕ
merged_places xs [] = xs
merged_places xs (y ∷ ys) = inserted (merged_places xs ys) y

-- the places and the new entry's, where the journal grew by one: it is the number of entries before it
abbrev pub places_after : {E : Type 0} → List ℕ → List E → List E → List ℕ
places_after places before after =
    if nat_lt (length before) (length after) then (places ++ length before ∷ []) else places

-- the journal has an owned place, and it is one of these
abbrev pub OwnsPlaceOf : {E : Type 0} → (List E → Option ℕ) → List E → List ℕ → Type 0
OwnsPlaceOf owned journal places = (p : ℕ) × (owned journal ≡ Some p) × Contains places p

-- an entry comes only where the owned place of the journal before, if it has one, is one of these
abbrev pub MayAppend : {E : Type 0} → (List E → Option ℕ) → List ℕ → List E → List E → Type 0
MayAppend owned places before after =
    (e : _) (p : ℕ) → after ≡ before ++ e ∷ [] → owned before ≡ Some p → Contains places p

-- at most one entry was added
abbrev pub GrowsByAtMostOne : {E : Type 0} → List E → List E → Type 0
GrowsByAtMostOne before after = (after ≡ before) ⊎ ((e : _) × (after ≡ before ++ e ∷ []))

-- one of the two lists is a prefix of the other
abbrev pub OneIsPrefix : {E : Type 0} → List E → List E → Type 0
OneIsPrefix xs ys = IsPrefix xs ys ⊎ IsPrefix ys xs

-- the one that has more
abbrev pub longer : {E : Type 0} → List E → List E → List E
longer xs ys = if nat_lt (length xs) (length ys) then ys else xs

-- one of the two lists, of which each of them is a prefix
pub record IsLongest {E : Type 0} (xs ys longest : List E) : Type 0 where
  pub one_of : (longest ≡ xs) ⊎ (longest ≡ ys)
  pub first_is_prefix : IsPrefix xs longest
  pub second_is_prefix : IsPrefix ys longest
