-- Which rows of a snapshot have a term, and what an index of them keeps.
use Rattle.std.specs.Prelude.{◌≡◌, ◌≤ℤ◌, ℕ, ◌+◌, Bool, true, false, not, ◌&&◌, ◌||◌, if◌then◌else◌, codes, slice_get, List, [], ◌∷◌, ◌++◌, filter, map, All, Option, None, Some, is_some}
use Rattle.std.specs.List.{list_all, list_any}
use Rattle.std.specs.List.Sorted.{IsStrictlyIncreasing}
use Rattle.std.specs.Str.{bytes_eq}
use Rattle.std.specs.declared.cmp.Ordering.{Ordering}
use Rattle.sc_record.specs.declared.term.Term.{Term}
use Rattle.sc_record.specs.Writes.{Write}
use Rattle.sc_record.proofs.TermLemmas.{same_term}
use Rattle.sc_rows.specs.Joining.{has_row}
use Rattle.sc_segment.specs.Index.{IsIndexOf, distinct_keys}
use Rattle.sc_snapshot.specs.Keys.{key_cmp}
use Rattle.sc_snapshot.specs.declared.index.Index.{Index}
use Rattle.sc_snapshot.specs.declared.survey.Survey.{Survey}
use Rattle.sc_snapshot.specs.declared.term_key.TermKey.{TermKey}

-- the order of the keys
abbrev pub key_order : TermKey → TermKey → Ordering
key_order one other = key_cmp one.term other.term

-- a row's number with each of these terms as a key
abbrev pub keyed : ℕ → List Term → List (ℕ × TermKey)
keyed number terms = map (λ (term : Term). (number, record { term = term })) terms

-- what a search finds a row by: nothing where it is a deletion
abbrev pub live_terms : Write → List Term
live_terms row = if is_some row.doc then row.terms else []

-- each row's number, counted from this one, with each of its terms where it is live
abbrev pub keyed_rows : ℕ → List Write → List (ℕ × TermKey)
keyed_rows from [] = []
keyed_rows from (row ∷ rows) = keyed from (live_terms row) ++ keyed_rows (from + 1) rows

-- how many terms the live rows have, each counted once
abbrev pub term_count : List Write → ℕ
term_count rows = distinct_keys key_order (keyed_rows 0 rows)

-- there is a live row, and it has the term
abbrev pub has_term : Term → Option Write → Bool
has_term term None = false
has_term term (Some row) = list_any (same_term term) (live_terms row)

-- there is a row, and it is live
abbrev pub is_live_at : Option Write → Bool
is_live_at None = false
is_live_at (Some row) = is_some row.doc

-- there is a live row, and it is of the id
abbrev pub is_live_of : List ℕ → Option Write → Bool
is_live_of id None = false
is_live_of id (Some row) = is_some row.doc && bytes_eq row.id id

-- the term is of the field of ids
abbrev pub is_id_term : Term → Bool
is_id_term term = bytes_eq term.field (codes "id")

-- the term is that of the id, where it is of the field of ids
abbrev pub is_no_other_id : List ℕ → Term → Bool
is_no_other_id id term = not (is_id_term term) || bytes_eq term.key id

-- of the terms of the field of ids there is that of the id, and no other
abbrev pub is_id_alone : List ℕ → List Term → Bool
is_id_alone id terms = list_any is_id_term terms && list_all (is_no_other_id id) terms

-- of the terms of the field of ids a row has that of its own id alone, where it is live
abbrev pub has_id_alone : Write → Bool
has_id_alone row = not (is_some row.doc) || is_id_alone row.id row.terms

-- these terms without those of the field of ids
abbrev pub other_terms : List Term → List Term
other_terms terms = filter (λ (term : Term). not (is_id_term term)) terms

-- a row without its terms of the field of ids
abbrev pub without_ids : Write → Write
without_ids row = record row { terms = other_terms row.terms }

-- the numbers of the live rows, ascending
pub record AreLiveRows (rows : List Write) (numbers : List ℕ) : Type 0 where
  pub members : (number : ℕ) → has_row numbers number ≡ is_live_at (slice_get rows number)
  pub ascending : IsStrictlyIncreasing numbers

-- which rows are live, and between which hashes the rows' are
pub record IsSurvey (rows : List Write) (survey : Survey) : Type 0 where
  pub live_rows : AreLiveRows rows survey.live_rows.items
  pub live_bits : survey.live_bits ≡ map (λ (row : Write). is_some row.doc) rows
  pub hashes : All (λ (row : Write). (survey.least_hash ≤ℤ row.hash) × (row.hash ≤ℤ survey.greatest_hash)) rows

-- how a row is found by a term of the field of ids: by its own id, where no live row has another such term or lacks its own, or else in
-- an index of all terms
abbrev pub AreIdsFound : List Write → Option (List (TermKey × List ℕ)) → Type 0
AreIdsFound rows None = list_all has_id_alone rows ≡ true
AreIdsFound rows (Some whole) = IsIndexOf key_order (keyed_rows 0 rows) whole

-- an index of rows: where each other term of the live ones is, how they are found by ids, and what there is to know of all
pub record IsIndexed (rows : List Write) (index : Index) : Type 0 where
  pub terms : IsIndexOf key_order (keyed_rows 0 (map without_ids rows)) index.segment
  pub ids : AreIdsFound rows index.whole
  pub survey : IsSurvey rows index.survey
