-- The terms of a document field by field.
use Rattle.std.specs.Prelude.{◌≡◌, ◌↔◌, ◌++◌, ℕ, Bool, List, [], ◌∷◌, map, flat_map, codes, Contains, Option, Some, None, is_some, ⊤}
use Rattle.std.specs.Cmp.Lexicographic.{slice_cmp}
use Rattle.std.specs.List.{AllByRecursion}
use Rattle.std.specs.List.Sorted.{IsStrictlySortedBy}
use Rattle.std.specs.Ordering.{nat_cmp}
use Rattle.std.specs.declared.cmp.Ordering.TheVariants.{Less}
use Rattle.sc_values.specs.Fields.{kind_of}
use Rattle.sc_values.specs.declared.field.Field.{Field}
use Rattle.sc_record.specs.TermsStates.{TermsState}
use Rattle.sc_record.specs.declared.term.Term.{Term}
use Rattle.sc_schema.specs.Terms.{by_words, keys_of, term}

-- the keys ascend, each once, and are just those that were found
pub record AreKeys (found keys : List (List ℕ)) : Type 0 where
  pub ascend : IsStrictlySortedBy (slice_cmp nat_cmp) keys
  pub same : (key : List ℕ) → Contains keys key ↔ Contains found key

-- a field's name, and the keys that were found in it
abbrev pub Found : Type 0
Found = List ℕ × List (List ℕ)

-- what was found in a field
abbrev pub found_in_field : Field → Found
found_in_field field = (field.name, flat_map (keys_of (by_words (kind_of field.name))) field.values)

-- the terms are those of what was found, in the same order of the fields, and those of each field ascend, each once
abbrev pub AreTermsInOrder : List Found → List Term → Type 0
AreTermsInOrder [] terms = terms ≡ []
AreTermsInOrder (found ∷ others) terms =
    (keys : List (List ℕ)) × (rest : List Term) × AreKeys found.1 keys × (terms ≡ map (term found.0) keys ++ rest) × AreTermsInOrder others rest

-- these terms of what was found were put at the end
pub record AddsTerms (found : List Found) (old new : List Term) : Type 0 where
  pub terms : List Term
  pub are : AreTermsInOrder found terms
  pub added : new ≡ old ++ terms

-- the terms that a builder has, and these keys of its field after them
abbrev pub with_keys : List (List ℕ) → TermsState → TermsState
with_keys keys state = record { id = state.id; fields = state.fields; field = state.field; terms = state.terms ++ map (term state.field) keys }

-- the keys that were found are put at the end, ascending, each once
pub record PutsKeys (found : List (List ℕ)) (old new : TermsState) : Type 0 where
  pub keys : List (List ℕ)
  pub are : AreKeys found keys
  pub put : new ≡ with_keys keys old

-- a builder of the same document's terms has those of what was found at their end
pub record Builds (found : List Found) (old new : TermsState) : Type 0 where
  pub id : new.id ≡ old.id
  pub fields : new.fields ≡ old.fields
  pub added : AddsTerms found old.terms new.terms

-- the name comes before that of the id
abbrev pub IsBelowId : Field → Type 0
IsBelowId field = slice_cmp nat_cmp field.name (codes "id") ≡ Less

-- the fields from the place of the id on, as far as it has come, or none
abbrev pub fields_from_id : Option (List Field) → List Field
fields_from_id None = []
fields_from_id (Some fields) = fields

-- the id has its place before the first field whose name does not come before its own
abbrev pub IsPlaceOfId : Option (List Field) → Type 0
IsPlaceOfId None = ⊤
IsPlaceOfId (Some []) = ⊥
IsPlaceOfId (Some (field ∷ fields)) = IsBelowId field → ⊥

-- what was found in the fields so far, with the id at its place, where that has come
abbrev pub found_so_far : List ℕ → List Field → Option (List Field) → List Found
found_so_far id before None = map found_in_field before
found_so_far id before (Some fields) = map found_in_field before ++ (codes "id", id ∷ []) ∷ map found_in_field fields

-- of all fields but those that are left the terms were built, and that of the id at its place, where that has come
pub record BuildsSoFar (all left : List Field) (has_id : Bool) (old new : TermsState) : Type 0 where
  pub before : List Field
  pub from_id : Option (List Field)
  pub come : has_id ≡ is_some from_id
  pub whole : all ≡ before ++ (fields_from_id from_id ++ left)
  pub below : AllByRecursion IsBelowId before
  pub place : IsPlaceOfId from_id
  pub builds : Builds (found_so_far old.id before from_id) old new
