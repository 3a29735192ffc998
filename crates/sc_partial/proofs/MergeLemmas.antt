-- What one step of the merge of fields and changes adds to the document.
use Rattle.std.proofs.Common.{◌≡◌, ℕ, Bool, false, List, [], ◌∷◌, ◌++◌, Option, Some, None, refl, sym, ap, subst, ◌∙◌, inl, inr}
use Rattle.std.specs.Bool.{IsTrue}
use Rattle.std.specs.List.{AllByRecursion}
use Rattle.std.specs.Str.{bytes_eq}
use Rattle.std.proofs.lemmas.Bool.{cases_Bool}
use Rattle.sc_values.specs.Fields.{kind_of, fits_name, IsField, IsBelowFirst, AreFields, values_of}
use Rattle.sc_record.specs.Orders.{AreFieldChanges}
use Rattle.sc_values.specs.declared.value.Kind.{Kind}
use Rattle.sc_values.specs.declared.value.Value.{Value}
use Rattle.sc_values.specs.declared.field.Field.{Field}
use Rattle.sc_record.specs.declared.order.FieldChange.{FieldChange}
use Rattle.sc_partial.specs.Changed.{can_change, changed}
use Rattle.sc_partial.specs.Resolved.{standing, resolved, some_values, some_field, IsChanged}
use Rattle.sc_partial.proofs.NameLemmas.{IsBelowFields, IsBelowChanges, same_itself, one_name, below_fields, below_changes, values_of-none, how_of-none, resolved-below, resolved-none}
use Rattle.sc_partial.proofs.ValueLemmas.{MayStand, no_values, some_field-is, fits_may_stand, changed_field, changed_missing}

-- a field of a document has a name that has values after the changes
below_new : (name : List ℕ) (fields : List Field) (changes : List FieldChange) (new : List Field) → IsBelowFields name fields → IsBelowChanges name changes
    → IsChanged fields changes new → IsBelowFirst name new
below_new name fields changes [] f c made = tt
below_new name fields changes (g ∷ new) f c made = elim (resolved-below name g.name fields changes f c) [
  | inl before ↦ before
  | inr none ↦
      let found : Some g.values ≡ some_values (resolved fields changes g.name) = rw same_itself at (made.values g.name) in
      let lost : some_values (resolved fields changes g.name) ≡ None = ap some_values none in
      cc
]

-- the document with one field more, which comes before all others, is that of changes which differ at its name alone
put : (name : List ℕ) (list : List Value) (fields more_fields : List Field) (changes more_changes : List FieldChange) (new : List Field)
    → IsBelowFields name fields → IsBelowChanges name changes → MayStand name list
    → resolved more_fields more_changes name ≡ list
    → ((other : List ℕ) → bytes_eq name other ≡ false → resolved more_fields more_changes other ≡ resolved fields changes other)
    → IsChanged fields changes new → IsChanged more_fields more_changes (some_field name list ++ new)
put name [] fields more_fields changes more_changes new f c may here others made = record {
  document = made.document;
  values = λ other. elim (cases_Bool (bytes_eq name other)) [
    | inl same ↦ subst (λ (n : List ℕ). values_of new n ≡ some_values (resolved more_fields more_changes n)) (one_name name other same)
        (made.values name ∙ ap some_values (resolved-none name fields changes f c ∙ sym here))
    | inr differs ↦ made.values other ∙ ap some_values (sym (others other differs))
  ];
}
put name (value ∷ list) fields more_fields changes more_changes new f c may here others made = record {
  document = record { each = (may, made.document.each); ascends = (below_new name fields changes new f c made, made.document.ascends) };
  values = λ other. elim (cases_Bool (bytes_eq name other)) [
    | inl same ↦ rw same (subst (λ (n : List ℕ). Some (value ∷ list) ≡ some_values (resolved more_fields more_changes n)) (one_name name other same)
        (ap some_values (sym here)))
    | inr differs ↦ rw differs (made.values other ∙ ap some_values (sym (others other differs)))
  ];
}

-- a field that no change names stays
pub keep : (field : Field) (fields : List Field) (changes : List FieldChange) (new : List Field) → AreFields (field ∷ fields) → IsBelowChanges field.name changes
    → IsChanged fields changes new → IsChanged (field ∷ fields) changes (field ∷ new)
keep field fields changes new document c made =
    subst (λ (one : List Field). IsChanged (field ∷ fields) changes (one ++ new)) (some_field-is field.name field.values document.each.0)
    (put field.name field.values fields (field ∷ fields) changes changes new (below_fields field.name fields document.ascends.0 document.ascends.1) c
    (fits_may_stand field.name field.values document.each.0)
    (rw (same_itself, how_of-none field.name changes c) refl)
    (λ other differs. rw differs refl) made)

-- a field that the first change names has the values that the change gives
pub change_first : (field : Field) (fields : List Field) (change : FieldChange) (changes : List FieldChange) (new : List Field) → AreFields (field ∷ fields)
    → AreFieldChanges (change ∷ changes) → field.name ≡ change.name → IsTrue (can_change change.name field.values change.how)
    → IsChanged fields changes new → IsChanged (field ∷ fields) (change ∷ changes) (some_field change.name (changed change.name field.values change.how) ++ new)
change_first field fields change changes new document lawful same can made =
    put change.name (changed change.name field.values change.how) fields (field ∷ fields) changes (change ∷ changes) new
    (subst (λ (n : List ℕ). IsBelowFields n fields) same (below_fields field.name fields document.ascends.0 document.ascends.1))
    (below_changes change changes lawful)
    (changed_field change.name field.values change.how lawful.0.0 (subst (λ (n : List ℕ). IsField (record { name = n; values = field.values })) same document.each.0) can)
    (rw (same, same_itself) refl)
    (λ other differs. rw (same, differs) refl) made

-- and so has a field that was missing
pub insert : (fields : List Field) (change : FieldChange) (changes : List FieldChange) (new : List Field) → AreFields fields
    → AreFieldChanges (change ∷ changes) → IsBelowFirst change.name fields → IsTrue (can_change change.name [] change.how)
    → IsChanged fields changes new → IsChanged fields (change ∷ changes) (some_field change.name (changed change.name [] change.how) ++ new)
insert fields change changes new document lawful below can made =
    let f = below_fields change.name fields below document.ascends in
    put change.name (changed change.name [] change.how) fields fields changes (change ∷ changes) new f
    (below_changes change changes lawful)
    (changed_missing change.name change.how lawful.0.0 can)
    (rw (same_itself, values_of-none change.name fields f) refl)
    (λ other differs. rw differs refl) made

-- where nothing changes, the fields stay
pub some_values-is : (kind : Option (Kind × Bool)) (list : List Value) → IsTrue (fits_name kind list) → some_values list ≡ Some list
some_values-is kind [] fits = absurd (no_values kind fits)
some_values-is kind (value ∷ list) fits = refl

pub unchanged : (fields : List Field) → AreFields fields → IsChanged fields [] fields
unchanged fields document = record { document = document; values = stands fields document.each } where
  stands : (fields : List Field) → AllByRecursion IsField fields → (name : List ℕ) → values_of fields name ≡ some_values (standing fields name)
  stands [] each name = refl
  stands (f ∷ fields) each name = elim (cases_Bool (bytes_eq f.name name)) [
    | inl same ↦ rw same (sym (some_values-is (kind_of f.name) f.values each.0))
    | inr differs ↦ rw differs (stands fields each.1 name)
  ]
