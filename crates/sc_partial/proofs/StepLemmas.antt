-- What the merge of fields and changes has done so far, and each of its steps.
use Rattle.std.proofs.Common.{◌≡◌, ℕ, Bool, true, false, List, [], ◌∷◌, ◌++◌, append_assoc, Option, Some, None, refl, sym, ap, subst, ◌∙◌}
use Rattle.std.specs.Bool.{IsTrue, if◌then◌else◌}
use Rattle.std.specs.Ordering.{nat_cmp, ordering_reverse}
use Rattle.std.specs.Cmp.Lexicographic.{slice_cmp}
use Rattle.std.specs.declared.cmp.Ordering.TheVariants.{Equal, Greater}
use Rattle.std.proofs.lemmas.Cmp.{nat_list_cmp_total}
use Rattle.sc_values.specs.Fields.{IsBelowFirst, AreFields}
use Rattle.sc_record.specs.Orders.{AreFieldChanges}
use Rattle.sc_values.specs.declared.field.Field.{Field}
use Rattle.sc_record.specs.declared.order.FieldChange.{FieldChange}
use Rattle.sc_partial.specs.Changed.{can_change, changed}
use Rattle.sc_partial.specs.Resolved.{some_field, IsChanged, first_refused, IsRefusalOf}
use Rattle.sc_partial.specs.declared.fault.PartialFault.{PartialFault}
use Rattle.sc_partial.specs.declared.fault.PartialFault.TheVariants as faults
use Rattle.sc_partial.proofs.NameLemmas.{IsBefore, IsBelowChanges, names_of, same_itself, same_name, not_same, below_fields, below_changes, below_names_next, later_changes, values_of-none}
use Rattle.sc_partial.proofs.MergeLemmas.{keep, change_first, insert, unchanged}

-- the fields and changes that are left, put after the new fields, make the document that all make, and have its first refusal
pub record IsMergedSoFar (old : List Field) (all : List FieldChange) (fields : List Field) (changes : List FieldChange) (new : List Field) : Type 0 where
  pub document : AreFields fields
  pub lawful : AreFieldChanges changes
  pub refused : first_refused old all ≡ first_refused fields changes
  pub makes : (rest : List Field) → IsChanged fields changes rest → IsChanged old all (new ++ rest)

-- the same of equal lists
pub same_so_far : {old : List Field} {all : List FieldChange} {fields fields' : List Field} {changes changes' : List FieldChange} {new new' : List Field}
    → fields ≡ fields' → changes ≡ changes' → new ≡ new' → IsMergedSoFar old all fields changes new → IsMergedSoFar old all fields' changes' new'
same_so_far {old = old} {all = all} {fields = fields} {fields' = fields'} {changes = changes} {changes' = changes'} {new = new} {new' = new'} f c n so_far =
    subst (λ (x : List Field). IsMergedSoFar old all x changes' new') f
    (subst (λ (x : List FieldChange). IsMergedSoFar old all fields x new') c
    (subst (λ (x : List Field). IsMergedSoFar old all fields changes x) n so_far))

pub begun : (old : List Field) (all : List FieldChange) → AreFields old → AreFieldChanges all → IsMergedSoFar old all old all []
begun old all document lawful = record { document = document; lawful = lawful; refused = refl; makes = λ rest made. made }

-- no change is left: the fields that are left stay
pub done : (old : List Field) (all : List FieldChange) (fields new : List Field) → IsMergedSoFar old all fields [] new
    → (first_refused old all ≡ None) × IsChanged old all (new ++ fields)
done old all fields new so_far = (so_far.refused, so_far.makes fields (unchanged fields so_far.document))

-- the fields after the first one
rest_document : (field : Field) (fields : List Field) → AreFields (field ∷ fields) → AreFields fields
rest_document field fields document = record { each = document.each.1; ascends = document.ascends.1 }

-- a field that no change names has no part in their refusals
first_refused-other : (field : Field) (fields : List Field) (changes : List FieldChange) → IsBelowChanges field.name changes
    → first_refused (field ∷ fields) changes ≡ first_refused fields changes
first_refused-other field fields [] below = refl
first_refused-other field fields (change ∷ changes) below =
    rw (not_same field.name change.name below.0, first_refused-other field fields changes below.1) refl

pub kept : (old : List Field) (all : List FieldChange) (field : Field) (fields : List Field) (change : FieldChange) (changes : List FieldChange) (new : List Field)
    → IsMergedSoFar old all (field ∷ fields) (change ∷ changes) new → IsBefore field.name change.name
    → IsMergedSoFar old all fields (change ∷ changes) (new ++ field ∷ [])
kept old all field fields change changes new so_far before =
    let below : IsBelowChanges field.name (change ∷ changes) =
    (before, below_names_next field.name change.name (names_of changes) before (below_changes change changes so_far.lawful)) in
    record {
      document = rest_document field fields so_far.document;
      lawful = so_far.lawful;
      refused = so_far.refused ∙ first_refused-other field fields (change ∷ changes) below;
      makes = λ rest made. rw append_assoc (so_far.makes (field ∷ rest) (keep field fields (change ∷ changes) rest so_far.document below made));
    }

-- the refusal of the first change is that of all
refused_first : (can : Bool) (name : List ℕ) (later : Option (List ℕ)) (fault : PartialFault) → IsRefusalOf (if can then None else Some name) fault
    → IsRefusalOf (if can then later else Some name) fault
refused_first can name later faults.Memory is = tt
refused_first true name later (faults.Field other) is = cc
refused_first false name later (faults.Field other) is = is

-- the first change names the first field
pub first_refused-same : (field : Field) (fields : List Field) (change : FieldChange) (changes : List FieldChange) → AreFieldChanges (change ∷ changes)
    → field.name ≡ change.name → first_refused (field ∷ fields) (change ∷ changes)
    ≡ (if can_change change.name field.values change.how then first_refused fields changes else Some change.name)
first_refused-same field fields change changes lawful same =
    let below : IsBelowChanges field.name changes = subst (λ (n : List ℕ). IsBelowChanges n changes) (sym same) (below_changes change changes lawful) in
    rw (first_refused-other field fields changes below, same, same_itself) refl

pub refused_same : (old : List Field) (all : List FieldChange) (field : Field) (fields : List Field) (change : FieldChange) (changes : List FieldChange) (new : List Field)
    (fault : PartialFault) → IsMergedSoFar old all (field ∷ fields) (change ∷ changes) new → slice_cmp nat_cmp field.name change.name ≡ Equal
    → IsRefusalOf (if can_change change.name field.values change.how then None else Some change.name) fault
    → IsRefusalOf (first_refused old all) fault
refused_same old all field fields change changes new fault so_far equal is =
    let same = so_far.refused ∙ first_refused-same field fields change changes so_far.lawful (same_name field.name change.name equal) in
    subst (λ (r : Option (List ℕ)). IsRefusalOf r fault) (sym same)
    (refused_first (can_change change.name field.values change.how) change.name (first_refused fields changes) fault is)

pub changed_same : (old : List Field) (all : List FieldChange) (field : Field) (fields : List Field) (change : FieldChange) (changes : List FieldChange) (new : List Field)
    → IsMergedSoFar old all (field ∷ fields) (change ∷ changes) new → slice_cmp nat_cmp field.name change.name ≡ Equal
    → IsTrue (can_change change.name field.values change.how)
    → IsMergedSoFar old all fields changes (new ++ some_field change.name (changed change.name field.values change.how))
changed_same old all field fields one changes new so_far equal can =
    let same = same_name field.name one.name equal in
    record {
      document = rest_document field fields so_far.document;
      lawful = later_changes one changes so_far.lawful;
      refused = so_far.refused ∙ first_refused-same field fields one changes so_far.lawful same ∙ rw can refl;
      makes = λ rest made. rw append_assoc (so_far.makes (some_field one.name (changed one.name field.values one.how) ++ rest)
          (change_first field fields one changes rest so_far.document so_far.lawful same can made));
    }

-- the first change names no field
pub first_refused-missing : (fields : List Field) (change : FieldChange) (changes : List FieldChange) → AreFields fields → IsBelowFirst change.name fields
    → first_refused fields (change ∷ changes) ≡ (if can_change change.name [] change.how then first_refused fields changes else Some change.name)
first_refused-missing fields change changes document below =
    rw (values_of-none change.name fields (below_fields change.name fields below document.ascends)) refl

pub refused_missing : (old : List Field) (all : List FieldChange) (fields : List Field) (change : FieldChange) (changes : List FieldChange) (new : List Field)
    (fault : PartialFault) → IsMergedSoFar old all fields (change ∷ changes) new → IsBelowFirst change.name fields
    → IsRefusalOf (if can_change change.name [] change.how then None else Some change.name) fault
    → IsRefusalOf (first_refused old all) fault
refused_missing old all fields change changes new fault so_far below is =
    let missing = so_far.refused ∙ first_refused-missing fields change changes so_far.document below in
    subst (λ (r : Option (List ℕ)). IsRefusalOf r fault) (sym missing)
    (refused_first (can_change change.name [] change.how) change.name (first_refused fields changes) fault is)

pub changed_missing : (old : List Field) (all : List FieldChange) (fields : List Field) (change : FieldChange) (changes : List FieldChange) (new : List Field)
    → IsMergedSoFar old all fields (change ∷ changes) new → IsBelowFirst change.name fields → IsTrue (can_change change.name [] change.how)
    → IsMergedSoFar old all fields changes (new ++ some_field change.name (changed change.name [] change.how))
changed_missing old all fields one changes new so_far below can = record {
  document = so_far.document;
  lawful = later_changes one changes so_far.lawful;
  refused = so_far.refused ∙ first_refused-missing fields one changes so_far.document below ∙ rw can refl;
  makes = λ rest made. rw append_assoc (so_far.makes (some_field one.name (changed one.name [] one.how) ++ rest)
      (insert fields one changes rest so_far.document so_far.lawful below can made));
}

-- a change that comes before the first field names none
pub below_first : (field : Field) (fields : List Field) (change : FieldChange) → slice_cmp nat_cmp field.name change.name ≡ Greater
    → IsBelowFirst change.name (field ∷ fields)
below_first field fields change greater = nat_list_cmp_total.antisymm change.name field.name ∙ ap ordering_reverse greater
