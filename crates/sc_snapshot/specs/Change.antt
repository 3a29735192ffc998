-- What becomes of the rows of a snapshot in the next one.
use Rattle.std.specs.Prelude.{◌≡◌, ℕ, ◌+◌, ◌<◌, ◌≤◌, ◌==◌, Bool, false, if◌then◌else◌, List, [], ◌∷◌, ◌++◌, length, map, take, slice_get, IfSome, Option, None, Some}
use Rattle.std.specs.List.{list_any}
use Rattle.sc_record.specs.Writes.{Write}
use Rattle.sc_segment.specs.Filing.{BuilderState}
use Rattle.sc_segment.specs.Index.{IsIndexOf}
use Rattle.sc_snapshot.specs.declared.change.Change.{Change}
use Rattle.sc_snapshot.specs.declared.term_key.TermKey.{TermKey}
use Rattle.sc_snapshot.specs.Postings.{key_order, keyed, live_terms, without_ids}

-- an old row's number in the next snapshot, where it is kept, is this one
abbrev pub moves_to : ℕ → Option ℕ → Bool
moves_to number None = false
moves_to number (Some other) = other == number

-- the new row with this number is an old one
abbrev pub is_kept : List (Option ℕ) → ℕ → Bool
is_kept moved number = list_any (moves_to number) moved

-- each row's number, counted from this one, with each of its terms where it is live, less the rows that are kept
abbrev pub keyed_new : List (Option ℕ) → ℕ → List Write → List (ℕ × TermKey)
keyed_new moved from [] = []
keyed_new moved from (row ∷ rows) = (if is_kept moved from then [] else keyed from (live_terms row)) ++ keyed_new moved (from + 1) rows

-- of so many old rows each that is kept has its own number, and the terms of all others are filed but for those of the field of ids
pub record LosesInPlace (old : List Write) (low : ℕ) (moved : List (Option ℕ)) (lost : BuilderState TermKey) : Type 0 where
  pub own : (at number : ℕ) → slice_get moved at ≡ Some (Some number) → number ≡ at
  pub filed : IsIndexOf key_order (keyed_new moved 0 (map without_ids (take low old))) lost.index
  pub last_row : lost.last_row ≤ low

-- so many of the old rows and of the new ones are told: each old row that is kept is the new one of its number, the kept stay in
-- order, the terms of all other new rows are filed but for those of the field of ids, and what is lost is told at most where the kept
-- have their own numbers
pub record IsChange (old new : List Write) (low high : ℕ) (change : Change) : Type 0 where
  pub told : length change.moved ≡ low
  pub kept : (at number : ℕ) → slice_get change.moved at ≡ Some (Some number) → (number < high) × (slice_get old at ≡ slice_get new number)
  pub ascending : (at later number other : ℕ) → at < later → slice_get change.moved at ≡ Some (Some number)
      → slice_get change.moved later ≡ Some (Some other) → number < other
  pub filed : IsIndexOf key_order (keyed_new change.moved 0 (map without_ids (take high new))) change.added.index
  pub last_row : change.added.last_row ≤ high
  pub lost : IfSome change.lost (LosesInPlace old low change.moved)
