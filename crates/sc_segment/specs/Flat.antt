-- An index laid out flat: its keys, where the rows of each key end, and the rows of all keys one after another.
use Rattle.std.specs.Prelude.{◌≡◌, ℕ, ◌+◌, ◌≤◌, List, [], ◌∷◌, ◌++◌, length, slice_range}

-- each key with its rows, where those of the first key begin here
abbrev pub entries_from : {K : Type 0} → ℕ → List K → List ℕ → List ℕ → List (K × List ℕ)
entries_from from [] ends rows = []
entries_from from (key ∷ keys) [] rows = []
entries_from from (key ∷ keys) (end ∷ ends) rows = (key, slice_range rows from end) ∷ entries_from end keys ends rows

-- where the rows of the last key end
abbrev pub last_end : ℕ → List ℕ → ℕ
last_end from [] = from
last_end from (end ∷ ends) = last_end end ends

-- no key's rows end before they begin, and none past all rows
abbrev pub AreEnds : ℕ → List ℕ → ℕ → Type 0
AreEnds from [] count = from ≤ count
AreEnds from (end ∷ ends) count = (from ≤ end) × AreEnds end ends count

-- a flat index while it is written: its entries so far, and rows whose key is still to come
pub record FlatState (K : Type 0) : Type 0 where
  pub entries : List (K × List ℕ)
  pub pending : List ℕ

-- how many rows these entries have
abbrev pub rows_among : {K : Type 0} → List (K × List ℕ) → ℕ
rows_among [] = 0
rows_among (e ∷ entries) = length e.1 + rows_among entries

-- the three lists of an index
pub record IsLaidOut {K : Type 0} (keys : List K) (ends rows : List ℕ) : Type 0 where
  pub as_long : length keys ≡ length ends
  pub are_ends : AreEnds 0 ends (length rows)

-- each row is one of a key before
abbrev pub AreAllClosed : List ℕ → List ℕ → Type 0
AreAllClosed ends rows = last_end 0 ends ≡ length rows

-- the keys of a flat index, and where the rows of each end
pub record KeyEnds (K : Type 0) : Type 0 where
  pub keys : List K
  pub ends : List ℕ

abbrev pub key_ends : {K : Type 0} → List K → List ℕ → KeyEnds K
key_ends keys ends = record { keys = keys; ends = ends }

-- a key was put at the end, and where its rows end; nothing, where it has no rows
abbrev pub PutsKey : {K : Type 0} → K → (rows : List ℕ) → (end : ℕ) → (old new : KeyEnds K) → Type 0
PutsKey key [] end old new = (new.keys ≡ old.keys) × (new.ends ≡ old.ends)
PutsKey key (row ∷ rows) end old new = (new.keys ≡ old.keys ++ key ∷ []) × (new.ends ≡ old.ends ++ end ∷ [])

-- the entry of a key, none where it has no rows
abbrev pub entry_for : {K : Type 0} → K → List ℕ → List (K × List ℕ)
entry_for key [] = []
entry_for key (row ∷ rows) = (key, row ∷ rows) ∷ []
