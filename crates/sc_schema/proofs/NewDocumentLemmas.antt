-- A new document's bytes, so far, and what its members ask for.
use Rattle.std.proofs.Common.{◌≡◌, inl, inr, Bool, true, false, cond, ◌||◌, ℕ, ◌^◌, ◌<◌, List, [], ◌∷◌, ◌++◌, length, Option, Some, None, option_map, Result, Ok, Err, refl, sym, ap, ap₂, subst, ◌∙◌, append_assoc, append-nil, arith}
use Rattle.std.specs.Option.{option_and_then}
use Rattle.std.specs.Int.{w32, to_le_bytes}
use Rattle.std.specs.List.{flat_map, filter_map, list_any, AllByRecursion}
use Rattle.std.proofs.lemmas.List.{length-append}
use Rattle.std.proofs.lemmas.List.Concat.{flat_map-append}
use Rattle.std.proofs.lemmas.List.Elements.{filter_map-append}
use Rattle.sc_values.specs.Fields.{FitsValue, FitsField, IsDocument}
use Rattle.sc_values.specs.declared.value.Kind.{Kind}
use Rattle.sc_values.specs.declared.value.Value.{Value}
use Rattle.sc_values.specs.declared.field.Field.{Field}
use Rattle.sc_spelling.specs.Reading.{document_at}
use Rattle.sc_spelling.specs.Spellings.{spelling_of_value, spelling_of_field, spelling}
use Rattle.sc_record.specs.DocParts.{DocParts, no_parts, spelled}
use Rattle.sc_record.specs.declared.order.FieldChange.{FieldChange}
use Rattle.sc_record.proofs.DocumentLemmas.{spelling_read}
use Rattle.sc_schema.specs.Raw.{AscendByName}
use Rattle.sc_schema.specs.Values.{value_of, values_in}
use Rattle.sc_schema.specs.Documents.{and_then, found_map, field_of, is_field_name, is_object, member_change, member_changes, IsDocumentFault}
use Rattle.sc_schema.specs.NewDocuments.{IfFit, AddsValues, AddsFound}
use Rattle.sc_schema.specs.declared.raw.RawField.{RawField}
use Rattle.sc_schema.specs.declared.raw.RawOne.{RawOne}
use Rattle.sc_schema.specs.declared.fault.DocFault.{DocFault}
use Rattle.sc_schema.proofs.PartLemmas.{made-fields}

-- ---- the values of a field

-- the values of the list but those that are left were put at the end
pub record AreValuesSoFar (kind : Kind) (list left : List RawOne) (start now : DocParts) : Type 0 where
  pub values : List Value
  pub found : values_in kind list ≡ option_map (λ (more : List Value). values ++ more) (values_in kind left)
  pub adds : AddsValues values start now

same_found : (o : Option (List Value)) → o ≡ option_map (λ (more : List Value). [] ++ more) o
same_found None = refl
same_found (Some values) = refl

-- none was put there yet
pub no_values : (kind : Kind) (list : List RawOne) (start : DocParts) → AreValuesSoFar kind list list start start
no_values kind list start = record {
  values = [];
  found = same_found (values_in kind list);
  adds = record { count = refl; bytes = sym (append-nil start.bytes); fits = tt };
}

all_fit : (values others : List Value) → AllByRecursion FitsValue values → AllByRecursion FitsValue others → AllByRecursion FitsValue (values ++ others)
all_fit [] others a b = b
all_fit (value ∷ values) others a b = (a.0, all_fit values others a.1 b)

moved_on : (xs : List Value) (x : Value) (o : Option (List Value))
    → option_map (λ (more : List Value). xs ++ more) (option_map (λ (more : List Value). x ∷ more) o) ≡ option_map (λ (more : List Value). (xs ++ x ∷ []) ++ more) o
moved_on xs x None = refl
moved_on xs x (Some more) = ap Some (sym (append_assoc xs (x ∷ []) more))

-- the first of those that are left was put at the end
pub one_value_more : (kind : Kind) (list : List RawOne) (one : RawOne) (left : List RawOne) (start now next : DocParts)
    → AreValuesSoFar kind list (one ∷ left) start now → IfFit true (value_of kind one) (λ value. AddsValues (value ∷ []) now next)
    → AreValuesSoFar kind list left start next
one_value_more kind list one left start now next so_far added = by_value (value_of kind one) refl added
  where
    by_value : (o : Option Value) → value_of kind one ≡ o → IfFit true o (λ value. AddsValues (value ∷ []) now next) → AreValuesSoFar kind list left start next
    by_value None was none = absurd none
    by_value (Some value) was adds = record {
      values = so_far.values ++ value ∷ [];
      found = so_far.found
          ∙ ap (λ (o : Option Value). option_map (λ (more : List Value). so_far.values ++ more) (option_and_then (λ (v : Value). option_map (λ (more : List Value). v ∷ more) (values_in kind left)) o)) was
          ∙ moved_on so_far.values value (values_in kind left);
      adds = record {
        count = adds.count ∙ so_far.adds.count;
        bytes = adds.bytes ∙ ap (λ (b : List ℕ). b ++ flat_map spelling_of_value (value ∷ [])) so_far.adds.bytes
            ∙ append_assoc start.bytes (flat_map spelling_of_value so_far.values) (flat_map spelling_of_value (value ∷ []))
            ∙ ap (λ (b : List ℕ). start.bytes ++ b) (sym (flat_map-append spelling_of_value so_far.values (value ∷ [])));
        fits = all_fit so_far.values (value ∷ []) so_far.adds.fits adds.fits;
      };
    }

-- all were put there
pub all_values : (kind : Kind) (list : List RawOne) (start now : DocParts) → AreValuesSoFar kind list [] start now
    → IfFit true (values_in kind list) (λ values. AddsValues values start now)
all_values kind list start now so_far =
    let is : values_in kind list ≡ Some so_far.values = so_far.found ∙ ap Some (append-nil so_far.values) in
    subst (λ (o : Option (List Value)). IfFit true o (λ values. AddsValues values start now)) (sym is) so_far.adds

-- the first of those that are left does not fit
pub no_values_fit : (kind : Kind) (list : List RawOne) (one : RawOne) (left : List RawOne) (start now next : DocParts)
    → AreValuesSoFar kind list (one ∷ left) start now → IfFit false (value_of kind one) (λ value. AddsValues (value ∷ []) now next)
    → IfFit false (values_in kind list) (λ values. AddsValues values start next)
no_values_fit kind list one left start now next so_far unfit = by_value (value_of kind one) refl unfit
  where
    by_value : (o : Option Value) → value_of kind one ≡ o → IfFit false o (λ value. AddsValues (value ∷ []) now next) → IfFit false (values_in kind list) (λ values. AddsValues values start next)
    by_value (Some value) was some = absurd some
    by_value None was none =
        let is : values_in kind list ≡ None = so_far.found
        ∙ ap (λ (o : Option Value). option_map (λ (more : List Value). so_far.values ++ more) (option_and_then (λ (v : Value). option_map (λ (more : List Value). v ∷ more) (values_in kind left)) o)) was in
        subst (λ (o : Option (List Value)). IfFit false o (λ values. AddsValues values start next)) (sym is) tt

-- ---- the fields of a document

-- the fields of the members but those that are left were put at the end
pub record AreFieldsSoFar (fields left : List RawField) (now : DocParts) : Type 0 where
  pub parts : List FieldChange
  pub found : member_changes fields ≡ found_map (λ (more : List FieldChange). parts ++ more) (member_changes left)
  pub count : now.count ≡ length (filter_map field_of parts)
  pub bytes : now.bytes ≡ flat_map spelling_of_field (filter_map field_of parts)
  pub fits : AllByRecursion FitsField (filter_map field_of parts)

same_changes : (found : Result (List FieldChange) DocFault) → found ≡ found_map (λ (more : List FieldChange). [] ++ more) found
same_changes (Ok parts) = refl
same_changes (Err fault) = refl

-- none was put there yet
pub no_fields : (fields : List RawField) (now : DocParts) → now ≡ no_parts → AreFieldsSoFar fields fields now
no_fields fields now none = record {
  parts = [];
  found = same_changes (member_changes fields);
  count = ap (λ (p : DocParts). p.count) none;
  bytes = ap (λ (p : DocParts). p.bytes) none;
  fits = tt;
}

-- all were put there, and make a document
pub record AreAllFields (fields : List RawField) (now : DocParts) : Type 0 where
  pub parts : List FieldChange
  pub found : member_changes fields ≡ Ok parts
  pub read : document_at (spelled now) ≡ Some (filter_map field_of parts, [])

pub all_fields : (fields : List RawField) (now : DocParts) → AscendByName fields → AreFieldsSoFar fields [] now → now.count < 2 ^ 32 → AreAllFields fields now
all_fields fields now ascend so_far few =
    let found : member_changes fields ≡ Ok so_far.parts = so_far.found ∙ ap Ok (append-nil so_far.parts) in
    let made : List Field = filter_map field_of so_far.parts in
    let lawful = made-fields fields so_far.parts ascend found in
    let document : IsDocument made = record {
      each = lawful.each;
      ascends = lawful.ascends;
      fits = record { count = omega (arith, few, so_far.count); each = so_far.fits };
    } in
    let bytes : spelled now ≡ spelling made = ap₂ (λ (n : ℕ) (t : List ℕ). to_le_bytes w32 n ++ t) so_far.count so_far.bytes in
    record { parts = so_far.parts; found = found; read = ap document_at bytes ∙ spelling_read made document }

-- what a member asks for, before what others ask for
with_others : Bool → Result FieldChange DocFault → Result (List FieldChange) DocFault → Result (List FieldChange) DocFault
with_others b made rest = cond b (and_then (λ part. found_map (λ more. part ∷ more) rest) made) rest

joined : (b : Bool) (made : Result FieldChange DocFault) (rest : Result (List FieldChange) DocFault) (before parts : List FieldChange) → with_others b made (Ok []) ≡ Ok parts
    → found_map (λ (more : List FieldChange). before ++ more) (with_others b made rest) ≡ found_map (λ (more : List FieldChange). (before ++ parts) ++ more) rest
unfolding with_others
joined false made rest before parts h =
    let e : [] ≡ parts = cc in
    ap (λ (p : List FieldChange). found_map (λ (more : List FieldChange). p ++ more) rest) (sym (append-nil before) ∙ ap (λ (p : List FieldChange). before ++ p) e)
joined true (Err fault) rest before parts h = cc
joined true (Ok part) (Err fault) before parts h = refl
joined true (Ok part) (Ok more) before parts h =
    let e : part ∷ [] ≡ parts = cc in
    ap Ok (sym (append_assoc before (part ∷ []) more) ∙ ap (λ (p : List FieldChange). (before ++ p) ++ more) e)

faulty : (b : Bool) (made : Result FieldChange DocFault) (rest : Result (List FieldChange) DocFault) (before : List FieldChange) (fault : DocFault) → with_others b made (Ok []) ≡ Err fault
    → found_map (λ (more : List FieldChange). before ++ more) (with_others b made rest) ≡ Err fault
unfolding with_others
faulty false made rest before fault h = cc
faulty true (Err other) rest before fault h = let e : other ≡ fault = cc in ap Err e
faulty true (Ok part) rest before fault h = cc

all_fields_fit : (fields others : List Field) → AllByRecursion FitsField fields → AllByRecursion FitsField others → AllByRecursion FitsField (fields ++ others)
all_fields_fit [] others a b = b
all_fields_fit (field ∷ fields) others a b = (a.0, all_fields_fit fields others a.1 b)

-- the field of the first of the members that are left was put at the end, where it sets one
pub one_field_more : (fields left : List RawField) (field : RawField) (now next : DocParts) → AreFieldsSoFar fields (field ∷ left) now
    → AddsFound (member_changes (field ∷ [])) now next → AreFieldsSoFar fields left next
unfolding with_others
one_field_more fields left field now next so_far added = by_found (member_changes (field ∷ [])) refl added
  where
    by_found : (found : Result (List FieldChange) DocFault) → member_changes (field ∷ []) ≡ found → AddsFound found now next → AreFieldsSoFar fields left next
    by_found (Err fault) was none = absurd none
    by_found (Ok parts) was adds =
        let before : List Field = filter_map field_of so_far.parts in
        let more : List Field = filter_map field_of parts in
        let both : filter_map field_of (so_far.parts ++ parts) ≡ before ++ more = filter_map-append field_of so_far.parts parts in
        record {
          parts = so_far.parts ++ parts;
          found = so_far.found ∙ joined (is_field_name field.name) (member_change field) (member_changes left) so_far.parts parts was;
          count = omega (arith, adds.adds.count, so_far.count, length-append before more, ap length both);
          bytes = adds.adds.bytes ∙ ap (λ (b : List ℕ). b ++ flat_map spelling_of_field more) so_far.bytes
              ∙ sym (flat_map-append spelling_of_field before more) ∙ ap (flat_map spelling_of_field) (sym both);
          fits = subst (AllByRecursion FitsField) (sym both) (all_fields_fit before more so_far.fits adds.fits);
        }

-- a fault of the first of the members that are left is the first fault of all
pub first_fault : (fields left : List RawField) (field : RawField) (now : DocParts) (fault : DocFault) → AreFieldsSoFar fields (field ∷ left) now
    → IsDocumentFault (member_changes (field ∷ [])) fault → IsDocumentFault (member_changes fields) fault
unfolding with_others
first_fault fields left field now fault so_far (inl memory) = inl memory
first_fault fields left field now fault so_far (inr is) =
    inr (so_far.found ∙ faulty (is_field_name field.name) (member_change field) (member_changes left) so_far.parts fault is)

-- where no value of these members is an object, none of the first of them is
pub first_is_plain : (field : RawField) (left : List RawField) → list_any (λ (f : RawField). is_object f.value) (field ∷ left) ≡ false → is_object field.value ≡ false
first_is_plain field left none = by_value (is_object field.value) none
  where
    by_value : (b : Bool) → b || list_any (λ (f : RawField). is_object f.value) left ≡ false → b ≡ false
    by_value true h = cc
    by_value false h = refl
