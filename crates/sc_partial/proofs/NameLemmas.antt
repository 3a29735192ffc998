-- What follows where a name comes before those of fields and changes.
use Rattle.std.proofs.Common.{◌≡◌, ℕ, true, false, List, [], ◌∷◌, map, None, refl, ap, subst, ◌∙◌, ◌⊎◌, inl, inr}
use Rattle.std.specs.Str.{bytes_eq}
use Rattle.std.specs.List.{AllByRecursion}
use Rattle.std.specs.Ordering.{nat_cmp, is_eq}
use Rattle.std.specs.Cmp.Lexicographic.{slice_cmp, texts_ties}
use Rattle.std.specs.declared.cmp.Ordering.TheVariants.{Less, Equal}
use Rattle.std.proofs.lemmas.Bool.{cases_Bool}
use Rattle.std.proofs.lemmas.Cmp.{nat_list_cmp_total, nat_list_eq_equiv}
use Rattle.std.proofs.lemmas.Map.Keys.{sorted_head, sorted_tail}
use Rattle.std.proofs.lemmas.Slice.Eq.{bytes_eq-Decides}
use Rattle.sc_values.specs.Fields.{IsBelowFirst, Ascends, values_of}
use Rattle.sc_record.specs.Orders.{AreFieldChanges}
use Rattle.sc_values.specs.declared.field.Field.{Field}
use Rattle.sc_record.specs.declared.order.FieldChange.{FieldChange}
use Rattle.sc_values.proofs.FieldLemmas.{below_next}
use Rattle.sc_partial.specs.Resolved.{how_of, resolved}

-- the name comes before the other one
abbrev pub IsBefore : List ℕ → List ℕ → Type 0
IsBefore name other = slice_cmp nat_cmp name other ≡ Less

-- the name comes before those of all these fields
abbrev pub IsBelowFields : List ℕ → List Field → Type 0
IsBelowFields name fields = AllByRecursion (λ (f : Field). IsBefore name f.name) fields

-- the names of changes, in order
abbrev pub names_of : List FieldChange → List (List ℕ)
names_of changes = map (λ (change : FieldChange). change.name) changes

-- the name comes before those of all these changes
abbrev pub IsBelowChanges : List ℕ → List FieldChange → Type 0
IsBelowChanges name changes = AllByRecursion (IsBefore name) (names_of changes)

pub same_itself : (name : List ℕ) → bytes_eq name name ≡ true
same_itself name = nat_list_eq_equiv.refl name

-- names that are the same to the test are one
pub one_name : (name other : List ℕ) → bytes_eq name other ≡ true → name ≡ other
one_name name other h = (bytes_eq-Decides name other).0 h

pub same_name : (name other : List ℕ) → slice_cmp nat_cmp name other ≡ Equal → name ≡ other
same_name name other h = one_name name other (texts_ties name other ∙ ap is_eq h)

-- a name is not one that comes after it
pub not_same : (name other : List ℕ) → IsBefore name other → bytes_eq name other ≡ false
not_same name other h = texts_ties name other ∙ ap is_eq h

pub not_before_itself : (name : List ℕ) → IsBefore name name → ⊥
not_before_itself name h = let no = not_same name name h in let yes = same_itself name in cc

pub before_next : (name next other : List ℕ) → IsBefore name next → IsBefore next other → IsBefore name other
before_next name next other h b = nat_list_cmp_total.trans name next other h b

-- what comes before the first field comes before all
pub below_fields : (name : List ℕ) (fields : List Field) → IsBelowFirst name fields → Ascends fields → IsBelowFields name fields
below_fields name [] h a = tt
below_fields name (f ∷ fields) h a = (h, below_fields name fields (below_next name f.name fields h a.0) a.1)

-- and so does what comes before that
pub below_fields_next : (name next : List ℕ) (fields : List Field) → IsBefore name next → IsBelowFields next fields → IsBelowFields name fields
below_fields_next name next [] h b = tt
below_fields_next name next (f ∷ fields) h b = (before_next name next f.name h b.0, below_fields_next name next fields h b.1)

pub below_names_next : (name next : List ℕ) (names : List (List ℕ)) → IsBefore name next → AllByRecursion (IsBefore next) names → AllByRecursion (IsBefore name) names
below_names_next name next [] h b = tt
below_names_next name next (other ∷ names) h b = (before_next name next other h b.0, below_names_next name next names h b.1)

-- the first change comes before all later ones
pub below_changes : (change : FieldChange) (changes : List FieldChange) → AreFieldChanges (change ∷ changes) → IsBelowChanges change.name changes
below_changes change changes lawful = sorted_head (slice_cmp nat_cmp) change.name (names_of changes) lawful.1

pub later_changes : (change : FieldChange) (changes : List FieldChange) → AreFieldChanges (change ∷ changes) → AreFieldChanges changes
later_changes change changes lawful = (lawful.0.1, sorted_tail (slice_cmp nat_cmp) change.name (names_of changes) lawful.1)

-- a name that has a field comes after what comes before all fields
pub values_of-below : (name other : List ℕ) (fields : List Field) → IsBelowFields name fields → IsBefore name other ⊎ (values_of fields other ≡ None)
values_of-below name other [] b = inr refl
values_of-below name other (f ∷ fields) b = elim (cases_Bool (bytes_eq f.name other)) [
  | inl same ↦ inl (subst (IsBefore name) (one_name f.name other same) b.0)
  | inr differs ↦ rw differs (values_of-below name other fields b.1)
]

pub how_of-below : (name other : List ℕ) (changes : List FieldChange) → IsBelowChanges name changes → IsBefore name other ⊎ (how_of changes other ≡ None)
how_of-below name other [] b = inr refl
how_of-below name other (change ∷ changes) b = elim (cases_Bool (bytes_eq change.name other)) [
  | inl same ↦ inl (subst (IsBefore name) (one_name change.name other same) b.0)
  | inr differs ↦ rw differs (how_of-below name other changes b.1)
]

-- no field has a name that comes before all
pub values_of-none : (name : List ℕ) (fields : List Field) → IsBelowFields name fields → values_of fields name ≡ None
values_of-none name fields b = elim (values_of-below name name fields b) [
  | inl before ↦ absurd (not_before_itself name before)
  | inr none ↦ none
]

pub how_of-none : (name : List ℕ) (changes : List FieldChange) → IsBelowChanges name changes → how_of changes name ≡ None
how_of-none name changes b = elim (how_of-below name name changes b) [
  | inl before ↦ absurd (not_before_itself name before)
  | inr none ↦ none
]

-- a name that has values after the changes comes after what comes before all fields and changes
pub resolved-below : (name other : List ℕ) (fields : List Field) (changes : List FieldChange) → IsBelowFields name fields → IsBelowChanges name changes
    → IsBefore name other ⊎ (resolved fields changes other ≡ [])
resolved-below name other fields changes f c = elim (values_of-below name other fields f) [
  | inl before ↦ inl before
  | inr none ↦ elim (how_of-below name other changes c) [ inl before ↦ inl before | inr unchanged ↦ inr (rw (none, unchanged) refl) ]
]

-- a name that comes before all has no values then
pub resolved-none : (name : List ℕ) (fields : List Field) (changes : List FieldChange) → IsBelowFields name fields → IsBelowChanges name changes
    → resolved fields changes name ≡ []
resolved-none name fields changes f c = rw (values_of-none name fields f, how_of-none name changes c) refl
