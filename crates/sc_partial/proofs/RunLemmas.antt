-- Each step of the merge of fields and changes, by the bytes that stand then.
use Rattle.std.proofs.Common.{◌≡◌, ℕ, ◌^◌, ◌<◌, List, [], ◌∷◌, ◌++◌, length, Option, Some, None, sym, ap, ap₂, subst, ◌∙◌, arith}
use Rattle.std.specs.Bool.{IsTrue}
use Rattle.std.specs.Int.{w32, to_le_bytes}
use Rattle.std.specs.List.{flat_map, AllByRecursion}
use Rattle.std.specs.Ordering.{nat_cmp}
use Rattle.std.specs.Cmp.Lexicographic.{slice_cmp}
use Rattle.std.specs.declared.cmp.Ordering.TheVariants.{Equal}
use Rattle.std.proofs.lemmas.List.{length-append}
use Rattle.std.proofs.lemmas.List.Concat.{flat_map-append}
use Rattle.sc_values.specs.Fields.{FitsField, IsDocument, IsBelowFirst}
use Rattle.sc_values.specs.declared.field.Field.{Field}
use Rattle.sc_spelling.specs.Reading.{document_at, read_of, rest_of}
use Rattle.sc_spelling.specs.Spellings.{spelling_of_field, spelling}
use Rattle.sc_record.specs.Orders.{AreFieldChanges}
use Rattle.sc_record.specs.declared.order.FieldChange.{FieldChange}
use Rattle.sc_spelling.specs.Lent.{field_of}
use Rattle.sc_spelling.specs.declared.field.FieldRef.{FieldRef}
use Rattle.std.specs.Iterator.{YieldsFirstBy}
use Rattle.sc_record.proofs.DocumentLemmas.{spelling_read}
use Rattle.sc_partial.specs.Changed.{can_change, changed}
use Rattle.sc_partial.specs.Resolved.{some_field, IsChanged, first_refused}
use Rattle.sc_record.specs.DocParts.{DocParts, no_parts, spelled, Adds}
use Rattle.sc_partial.specs.Runs.{next_fields}
use Rattle.sc_partial.proofs.NameLemmas.{IsBefore}
use Rattle.sc_partial.proofs.StepLemmas.{IsMergedSoFar, begun, done, kept, changed_same, changed_missing}

-- the run is of these fields, which fit
pub record IsRunOf (new : List Field) (run : DocParts) : Type 0 where
  pub count : run.count ≡ length new
  pub bytes : run.bytes ≡ flat_map spelling_of_field new
  pub each : AllByRecursion FitsField new

fit_all : (fields others : List Field) → AllByRecursion FitsField fields → AllByRecursion FitsField others → AllByRecursion FitsField (fields ++ others)
fit_all [] others a b = b
fit_all (field ∷ fields) others a b = (a.0, fit_all fields others a.1 b)

-- fields that fit are put after it
added : (new fields : List Field) (run next : DocParts) → IsRunOf new run → AllByRecursion FitsField fields → Adds fields run next → IsRunOf (new ++ fields) next
added new fields run next is fits adds = record {
  count = omega (arith, is.count, adds.count, length-append new fields);
  bytes = adds.bytes ∙ ap (λ (t : List ℕ). t ++ flat_map spelling_of_field fields) is.bytes ∙ sym (flat_map-append spelling_of_field new fields);
  each = fit_all new fields is.each fits;
}

-- the fields that are new are spelled, and those that are left fit
pub record IsSpelledSoFar (old : List Field) (all : List FieldChange) (left : List Field) (changes : List FieldChange) (run : DocParts) : Type 0 where
  pub new : List Field
  pub merged : IsMergedSoFar old all left changes new
  pub spelled : IsRunOf new run
  pub fit : AllByRecursion FitsField left

-- the same of equal lists
pub same_left : {old : List Field} {all : List FieldChange} {left left' : List Field} {changes changes' : List FieldChange} {run : DocParts}
    → left ≡ left' → changes ≡ changes' → IsSpelledSoFar old all left changes run → IsSpelledSoFar old all left' changes' run
same_left {old = old} {all = all} {left = left} {left' = left'} {changes = changes} {changes' = changes'} {run = run} f c so_far =
    subst (λ (x : List Field). IsSpelledSoFar old all x changes' run) f (subst (λ (x : List FieldChange). IsSpelledSoFar old all left x run) c so_far)

pub none_spelled : (old : List Field) (all : List FieldChange) (run : DocParts) → IsDocument old → AreFieldChanges all → run ≡ no_parts → IsSpelledSoFar old all old all run
none_spelled old all run document lawful empty = record {
  new = [];
  merged = begun old all (record { each = document.each; ascends = document.ascends }) lawful;
  spelled = record { count = ap (λ (p : DocParts). p.count) empty; bytes = ap (λ (p : DocParts). p.bytes) empty; each = tt };
  fit = document.fits.each;
}

-- a field that no change names is put at the end
pub kept_spelled : (old : List Field) (all : List FieldChange) (field : Field) (fields : List Field) (change : FieldChange) (changes : List FieldChange) (run next : DocParts)
    → IsSpelledSoFar old all (field ∷ fields) (change ∷ changes) run → IsBefore field.name change.name → Adds (field ∷ []) run next
    → IsSpelledSoFar old all fields (change ∷ changes) next
kept_spelled old all field fields change changes run next so_far before adds = record {
  new = so_far.new ++ field ∷ [];
  merged = kept old all field fields change changes so_far.new so_far.merged before;
  spelled = added so_far.new (field ∷ []) run next so_far.spelled (so_far.fit.0, tt) adds;
  fit = so_far.fit.1;
}

-- the first change names the first field
pub same_spelled : (old : List Field) (all : List FieldChange) (field : Field) (fields : List Field) (change : FieldChange) (changes : List FieldChange) (run next : DocParts)
    → IsSpelledSoFar old all (field ∷ fields) (change ∷ changes) run → slice_cmp nat_cmp field.name change.name ≡ Equal
    → IsTrue (can_change change.name field.values change.how)
    → AllByRecursion FitsField (some_field change.name (changed change.name field.values change.how))
    → Adds (some_field change.name (changed change.name field.values change.how)) run next
    → IsSpelledSoFar old all fields changes next
same_spelled old all field fields change changes run next so_far equal can fits adds = record {
  new = so_far.new ++ some_field change.name (changed change.name field.values change.how);
  merged = changed_same old all field fields change changes so_far.new so_far.merged equal can;
  spelled = added so_far.new (some_field change.name (changed change.name field.values change.how)) run next so_far.spelled fits adds;
  fit = so_far.fit.1;
}

-- the first change names no field
pub missing_spelled : (old : List Field) (all : List FieldChange) (fields : List Field) (change : FieldChange) (changes : List FieldChange) (run next : DocParts)
    → IsSpelledSoFar old all fields (change ∷ changes) run → IsBelowFirst change.name fields
    → IsTrue (can_change change.name [] change.how)
    → AllByRecursion FitsField (some_field change.name (changed change.name [] change.how))
    → Adds (some_field change.name (changed change.name [] change.how)) run next
    → IsSpelledSoFar old all fields changes next
missing_spelled old all fields change changes run next so_far below can fits adds = record {
  new = so_far.new ++ some_field change.name (changed change.name [] change.how);
  merged = changed_missing old all fields change changes so_far.new so_far.merged below can;
  spelled = added so_far.new (some_field change.name (changed change.name [] change.how)) run next so_far.spelled fits adds;
  fit = so_far.fit;
}

-- of the bytes of a document that changes made
pub record IsMade (old : List Field) (all : List FieldChange) (run : DocParts) : Type 0 where
  pub accepted : first_refused old all ≡ None
  pub whole : rest_of (document_at (spelled run)) ≡ Some []
  pub document : IsChanged old all (read_of (document_at (spelled run)))

-- no change is left: the fields that are left are put at the end
pub all_spelled : (old : List Field) (all : List FieldChange) (left : List Field) (run next : DocParts) → IsSpelledSoFar old all left [] run → Adds left run next
    → next.count < 2 ^ 32 → IsMade old all next
all_spelled old all left run next so_far adds few =
    let fields : List Field = so_far.new ++ left in
    let made = done old all left so_far.new so_far.merged in
    let is = added so_far.new left run next so_far.spelled so_far.fit adds in
    let document : IsDocument fields = record {
      each = made.1.document.each;
      ascends = made.1.document.ascends;
      fits = record { count = omega (arith, few, is.count); each = is.each };
    } in
    let bytes : spelled next ≡ spelling fields = ap₂ (λ (n : ℕ) (t : List ℕ). to_le_bytes w32 n ++ t) is.count is.bytes in
    let read : document_at (spelled next) ≡ Some (fields, []) = ap document_at bytes ∙ spelling_read fields document in
    record {
      accepted = made.0;
      whole = ap rest_of read;
      document = subst (IsChanged old all) (sym (ap read_of read)) made.1;
    }

-- the field that an iterator lends next, and those after it, are those that were left
pub next_all : (next : Option FieldRef) (left others : List Field) → YieldsFirstBy field_of (λ (rest : List Field). rest) left next others → left ≡ next_fields next others
next_all None left others yields = yields.0
next_all (Some field) left others yields = yields

-- no fields are a document
pub none_document : IsDocument []
none_document = record { each = tt; ascends = tt; fits = record { count = omega arith; each = tt } }

-- which four bytes spell
pub none_read : document_at (0 ∷ 0 ∷ 0 ∷ 0 ∷ []) ≡ Some ([], [])
none_read = spelling_read [] none_document
