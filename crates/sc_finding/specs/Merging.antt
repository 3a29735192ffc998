-- How lists are merged.
use Rattle.std.specs.Prelude.{◌≡◌, Bool, true, cond, ⊤, List, [], ◌∷◌}
use Rattle.std.specs.Cmp.Lexicographic.{slice_cmp}
use Rattle.std.specs.List.{AllByRecursion}
use Rattle.std.specs.Ordering.{nat_cmp, is_le}
use Rattle.sc_record.specs.Writes.{Write}

-- the first write's id is not after the second's
abbrev pub goes_before : Write → Write → Bool
goes_before one other = is_le (slice_cmp nat_cmp one.id other.id)

module _ {X : Type 0} (before : X → X → Bool) where
  -- x and xs merged with a list, where `rest` merges xs with a list
  abbrev pub merged_onto : X → List X → (List X → List X) → List X → List X
  merged_onto x xs rest [] = x ∷ xs
  merged_onto x xs rest (y ∷ ys) = cond (before x y) (x ∷ rest (y ∷ ys)) (y ∷ merged_onto x xs rest ys)

  -- the two lists merged: of their heads the first list's comes first where it goes before the other
  abbrev pub merged : List X → List X → List X
  merged [] ys = ys
  merged (x ∷ xs) ys = merged_onto x xs (merged xs) ys

  -- all lists merged, the first with what the others make
  abbrev pub gathered : List (List X) → List X
  gathered [] = []
  gathered (xs ∷ lists) = merged xs (gathered lists)

  -- each element goes before those after it
  abbrev pub AscendsBy : List X → Type 0
  AscendsBy [] = ⊤
  AscendsBy (x ∷ xs) = AllByRecursion (λ y. before x y ≡ true) xs × AscendsBy xs
