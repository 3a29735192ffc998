-- What a segment keeps of the rows that were added with keys.
use Rattle.std.specs.Prelude.{◌≡◌, ℕ, ◌+◌, ◌<◌, ◌==◌, if◌then◌else◌, List, [], ◌∷◌, length, map, filter, All, Any, Option, None, Some, unwrap_or}
use Rattle.std.specs.declared.cmp.Ordering.{Ordering}
use Rattle.std.specs.declared.cmp.Ordering.TheVariants.{Equal}
use Rattle.std.specs.Ordering.{is_eq}
use Rattle.std.specs.List.{dedup, list_any}
use Rattle.std.specs.List.Sorted.{IsStrictlyIncreasing, IsStrictlySortedBy}
use Rattle.std.specs.Map.{keys_of, lookup}

-- a list, or nothing in place of an empty one
abbrev pub non_empty : List ℕ → Option (List ℕ)
non_empty [] = None
non_empty (row ∷ rows) = Some (row ∷ rows)

-- rows without one that comes again at once
abbrev pub without_repeats : List ℕ → List ℕ
without_repeats = dedup (λ x y. x == y)

-- a key has rows, and they ascend
abbrev pub HasRows : {K : Type 0} → K × List ℕ → Type 0
HasRows e = (0 < length e.1) × IsStrictlyIncreasing e.1

module _ {K : Type 0} (order : K → K → Ordering) where
  -- the rows that were added with a key that compares equal, as they came, where a row that comes again counts once
  abbrev pub rows_with : List (ℕ × K) → K → List ℕ
  rows_with added key = without_repeats (map (λ p. p.0) (filter (λ p. is_eq (order key p.1)) added))

  -- a row was added with a key that compares equal
  abbrev pub WasAddedWith : List (ℕ × K) → K → ℕ → Type 0
  WasAddedWith added key row = Any (λ p. (p.0 ≡ row) × (order key p.1 ≡ Equal)) added

  -- how many keys were added, where those that compare equal count as one
  abbrev pub distinct_keys : List (ℕ × K) → ℕ
  distinct_keys [] = 0
  distinct_keys (p ∷ later) = if list_any (λ q. is_eq (order p.1 q.1)) later then distinct_keys later else distinct_keys later + 1

  -- an index of the added pairs of a row and a key has, for each distinct key, one entry with its rows
  pub record IsIndexOf (added : List (ℕ × K)) (index : List (K × List ℕ)) : Type 0 where
    -- the key's entry has the rows that were added with it, and a key that was not added has no entry
    pub rows : (key : K) → lookup (λ k. is_eq (order key k)) index ≡ non_empty (rows_with added key)
    -- no key has two entries
    pub size : length index ≡ distinct_keys added

  -- the rows that an index has for a key, none where it has no entry
  abbrev pub rows_at : List (K × List ℕ) → K → List ℕ
  rows_at index key = unwrap_or (lookup (λ k. is_eq (order key k)) index) []

  -- an index in order: its keys ascend, and each has rows, which ascend
  pub record IsInOrder (index : List (K × List ℕ)) : Type 0 where
    pub keys : IsStrictlySortedBy order (keys_of index)
    pub rows : All HasRows index
