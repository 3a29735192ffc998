-- Keys by their places among stored keys.
use Rattle.std.specs.Prelude.{◌≡◌, ℕ, ◌+◌, ◌/◌, ◌<◌, ◌≤◌, ⊤, List, [], ◌∷◌, All, length, max, slice_get}
use Rattle.std.specs.Arc.{arc_value}
use Rattle.std.specs.declared.cmp.Ordering.{Ordering}
use Rattle.std.specs.declared.cmp.Ordering.TheVariants.{Equal}
use Rattle.std.specs.List.{filter_map, flat_map}
use Rattle.sc_keys.specs.declared.keys.Piece.{Piece}

-- the keys of a piece
abbrev pub keys_in : {K : Type 0} → Piece K → List K
keys_in piece = (arc_value piece.keys).items

-- the keys of all pieces
abbrev pub stored_in : {K : Type 0} → List (Piece K) → List K
stored_in pieces = flat_map keys_in pieces

-- the keys of an index, and the stored keys that they are among, in so many pieces
pub record KeysState (K : Type 0) : Type 0 where
  pub stored : List K
  pub keys : List K
  pub pieces : ℕ

-- of the stored keys few are none of the index, no more than a sixteenth of its keys or than 64, and they stand in at most 64 pieces
pub record AreTrim {K : Type 0} (state : KeysState K) : Type 0 where
  pub gone : length state.stored ≤ length state.keys + max (length state.keys / 16) 64
  pub few : state.pieces ≤ 64

module _ {K : Type 0} (stored : List K) where
  -- the keys at these places
  abbrev pub keys_at : List ℕ → List K
  keys_at places = filter_map (slice_get stored) places

  -- there is a key at each of these places
  abbrev pub ArePlaces : List ℕ → Type 0
  ArePlaces places = All (λ place. place < length stored) places

-- these are the places of the keys of an index
pub record HasPlaces {K : Type 0} (state : KeysState K) (places : List ℕ) : Type 0 where
  pub are_places : ArePlaces state.stored places
  pub keys : keys_at state.stored places ≡ state.keys

module _ {K : Type 0} (order : K → K → Ordering) where
  -- keys that compare equal one by one
  abbrev pub AreAlike : List K → List K → Type 0
  AreAlike [] [] = ⊤
  AreAlike [] (other ∷ others) = ⊥
  AreAlike (key ∷ keys) [] = ⊥
  AreAlike (key ∷ keys) (other ∷ others) = (order key other ≡ Equal) × AreAlike keys others
