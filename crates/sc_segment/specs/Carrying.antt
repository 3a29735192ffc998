-- What becomes of an index when some rows change: its rows under new numbers, with the rows of another index beside them.
use Rattle.std.specs.Prelude.{◌≡◌, ℕ, ◌≤◌, ◌||◌, Bool, true, ⊤, List, [], ◌∷◌, slice_get, Option, Some}
use Rattle.std.specs.declared.cmp.Ordering.{Ordering}
use Rattle.std.specs.declared.cmp.Ordering.TheVariants.{Less}
use Rattle.sc_rows.specs.Joining.{has_row}
use Rattle.sc_rows.specs.Moving.{new_numbers, AreOwn}
use Rattle.sc_segment.specs.Index.{IsInOrder, rows_at}

-- the rows of each key that is told to stay keep their numbers
abbrev pub StayAt : {K : Type 0} → List (Option ℕ) → (index : List (K × List ℕ)) → (stays : List Bool) → Type 0
StayAt {K} moved index stays = (i : ℕ) (e : K × List ℕ) → slice_get index i ≡ Some e → slice_get stays i ≡ Some true → AreOwn moved e.1

module _ {K : Type 0} (order : K → K → Ordering) where
  -- a new index has for each key the old one's rows under their new numbers, and the rows that are added
  pub record IsCarried (moved : List (Option ℕ)) (old added new : List (K × List ℕ)) : Type 0 where
    pub in_order : IsInOrder order new
    pub members : (key : K) (row : ℕ) → has_row (rows_at order new key) row
        ≡ (has_row (new_numbers moved (rows_at order old key)) row || has_row (rows_at order added key) row)

  -- the key is above those of these entries
  abbrev pub IsAbove : K → List (K × List ℕ) → Type 0
  IsAbove key [] = ⊤
  IsAbove key (e ∷ entries) = (order e.0 key ≡ Less) × IsAbove key entries

  -- each key from this place on is above those of these entries
  abbrev pub AreBefore : List (K × List ℕ) → List (K × List ℕ) → ℕ → Type 0
  AreBefore entries index from = (i : ℕ) (e : K × List ℕ) → from ≤ i → slice_get index i ≡ Some e → IsAbove e.0 entries

  -- while an index is carried: what became of the first entries of both, and no key but theirs is new
  pub record IsCarriedSoFar (moved : List (Option ℕ)) (old added new : List (K × List ℕ)) : Type 0 where
    pub carried : IsCarried moved old added new
    pub above : (key : K) → IsAbove key old → IsAbove key added → IsAbove key new

  -- the rows of each key keep their numbers, but for the keys that have rows among the lost
  abbrev pub OthersStay : List (Option ℕ) → (index lost : List (K × List ℕ)) → Type 0
  OthersStay moved index lost = (i : ℕ) (e : K × List ℕ) → slice_get index i ≡ Some e → rows_at order lost e.0 ≡ [] → AreOwn moved e.1

  -- each key that is told to stay has no rows among the lost
  abbrev pub LoseNone : (stays : List Bool) → (index lost : List (K × List ℕ)) → Type 0
  LoseNone stays index lost = (i : ℕ) (e : K × List ℕ) → slice_get index i ≡ Some e → slice_get stays i ≡ Some true → rows_at order lost e.0 ≡ []
