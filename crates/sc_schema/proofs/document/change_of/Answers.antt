-- The changes of an atomic update are lawful, and name its members.
use Rattle.std.proofs.Common.{◌≡◌, ◌∙◌, Bool, true, false, cond, List, Result, Ok, Err, sym, ap}
use Rattle.std.specs.List.{filter_map, list_any}
use Rattle.sc_values.specs.declared.field.Field.{Field}
use Rattle.sc_record.specs.declared.order.FieldChange.{FieldChange}
use Rattle.sc_record.specs.declared.order.Change.TheVariants as changes
use Rattle.sc_schema.specs.Documents.{change_of_members, field_of, found_map, is_object, member_changes}
use Rattle.sc_schema.specs.declared.raw.RawField.{RawField}
use Rattle.sc_schema.specs.declared.fault.DocFault.{DocFault}
use Rattle.sc_schema.proofs.PartLemmas.{parts-lawful, parts-names}
use Rattle.sc_schema.proofs.document.change_of.Goals as goal

pub returns-then-is_update-clause-lawful : goal.returns-then-is_update-clause-lawful
returns-then-is_update-clause-lawful c =
    parts-lawful c.args.raw.now.fields c.in_ok-parts_of.field-0 c.args.raw.now.ascend (ap member_changes (sym c.as_slice-fields.ensures) ∙ c.in_ok-parts_of.ensures.ok)

pub returns-then-is_update-clause-names : goal.returns-then-is_update-clause-names
returns-then-is_update-clause-names c =
    parts-names c.args.raw.now.fields c.in_ok-parts_of.field-0 (ap member_changes (sym c.as_slice-fields.ensures) ∙ c.in_ok-parts_of.ensures.ok)

-- whether the value of a member is an object
has_object : List RawField → Bool
has_object fields = list_any (λ (f : RawField). is_object f.value) fields

asked_update : (fields : List RawField) (parts : List FieldChange) (found : Result (List FieldChange) DocFault) → found ≡ Ok parts → has_object fields ≡ true
    → found_map (change_of_members fields) found ≡ Ok (changes.Parts parts)
unfolding has_object
asked_update fields parts found was is =
    ap (found_map (change_of_members fields)) was ∙ ap (λ (b : Bool). Ok (cond b (changes.Parts parts) (changes.Whole (filter_map field_of parts)))) is

asked_whole : (fields : List RawField) (doc : List Field) (found : Result (List FieldChange) DocFault) → found_map (λ (parts : List FieldChange). filter_map field_of parts) found ≡ Ok doc
    → has_object fields ≡ false → found_map (change_of_members fields) found ≡ Ok (changes.Whole doc)
unfolding has_object
asked_whole fields doc (Err fault) made is = cc
asked_whole fields doc (Ok parts) made is =
    let same : filter_map field_of parts ≡ doc = cc in
    ap (λ (b : Bool). Ok (cond b (changes.Parts parts) (changes.Whole (filter_map field_of parts)))) is ∙ ap (λ (d : List Field). Ok (changes.Whole d)) same

pub returns-then-is_update-clause-ok : goal.returns-then-is_update-clause-ok
unfolding has_object
returns-then-is_update-clause-ok c =
    asked_update c.args.raw.now.fields c.in_ok-parts_of.field-0 (member_changes c.args.raw.now.fields) (ap member_changes (sym c.as_slice-fields.ensures) ∙ c.in_ok-parts_of.ensures.ok)
    (ap has_object (sym c.as_slice-fields.ensures) ∙ sym c.is_update.ensures ∙ c.if-is_update.true)

pub returns-clause-ok : goal.returns-clause-ok
unfolding has_object
returns-clause-ok c =
    asked_whole c.args.raw.now.fields c.in_ok-new_document.field-0 (member_changes c.args.raw.now.fields) c.in_ok-new_document.ensures.ok
    (ap has_object (sym c.as_slice-fields.ensures) ∙ sym c.is_update.ensures ∙ c.if-is_update.false)
