-- An index that is written with places for its keys, among stored keys.
use Rattle.std.specs.Prelude.{◌≡◌, ℕ, ⊤, List, [], ◌∷◌, Option, option_map, slice_get}
use Rattle.std.specs.declared.cmp.Ordering.{Ordering}
use Rattle.std.specs.declared.cmp.Ordering.TheVariants.{Equal}
use Rattle.std.specs.List.{filter_map}
use Rattle.std.specs.Map.{keys_of}
use Rattle.sc_keys.specs.Storing.{ArePlaces}
use Rattle.sc_segment.specs.Carrying.{IsCarriedSoFar}

-- an index that is only read, and the stored keys that its own are among
pub record KeptState (K : Type 0) : Type 0 where
  pub stored : List K
  pub entries : List (K × List ℕ)

module _ {K : Type 0} (stored : List K) where
  -- these entries with the keys at their places
  abbrev pub entries_of_places : List (ℕ × List ℕ) → List (K × List ℕ)
  entries_of_places entries = filter_map (λ e. option_map (λ key. (key, e.1)) (slice_get stored e.0)) entries

module _ {K : Type 0} (order : K → K → Ordering) where
  -- entries with the same rows whose keys compare equal one by one
  abbrev pub AreEntriesAlike : List (K × List ℕ) → List (K × List ℕ) → Type 0
  AreEntriesAlike [] [] = ⊤
  AreEntriesAlike [] (f ∷ fs) = ⊥
  AreEntriesAlike (e ∷ es) [] = ⊥
  AreEntriesAlike (e ∷ es) (f ∷ fs) = (order e.0 f.0 ≡ Equal) × (e.1 ≡ f.1) × AreEntriesAlike es fs

  -- while an index is carried, whose keys are written by their places: what became of the first entries of both
  pub record IsCarriedAt (stored : List K) (moved : List (Option ℕ)) (old added : List (K × List ℕ)) (new : List (ℕ × List ℕ)) : Type 0 where
    pub are_places : ArePlaces stored (keys_of new)
    pub so_far : IsCarriedSoFar order moved old added (entries_of_places stored new)
