-- What a member adds to the changes that are found.
use Rattle.std.proofs.Common.{◌≡◌, ◌∙◌, ℕ, ◌+◌, Bool, true, false, cond, List, [], ◌∷◌, ◌++◌, drop, Result, Ok, Err, refl, sym, ap, append_assoc, add-one, drop-cons, arith}
use Rattle.sc_record.specs.declared.order.FieldChange.{FieldChange}
use Rattle.sc_schema.specs.Documents.{and_then, found_map, is_field_name, member_change, member_changes}
use Rattle.sc_schema.specs.declared.raw.RawField.{RawField}
use Rattle.sc_schema.specs.declared.fault.DocFault.{DocFault}
use Rattle.sc_schema.proofs.document.parts_of.Goals.{then-is_field_name+in_ok-part_of+in_ok-push, else-is_field_name}
use Rattle.sc_schema.proofs.document.parts_of.Goals as goal

-- one change more, of a member that names a field
one_more : (b : Bool) (made : Result FieldChange DocFault) (rest : Result (List FieldChange) DocFault) (parts : List FieldChange) (part : FieldChange) → b ≡ true → made ≡ Ok part
    → found_map (λ more. parts ++ more) (cond b (and_then (λ part. found_map (λ more. part ∷ more) rest) made) rest) ≡ found_map (λ more. (parts ++ part ∷ []) ++ more) rest
one_more true (Ok other) (Ok more) parts part named made =
    let same : other ≡ part = cc in
    ap Ok (ap (λ (p : FieldChange). parts ++ (p ∷ more)) same ∙ sym (append_assoc parts (part ∷ []) more))
one_more true (Ok other) (Err fault) parts part named made = refl
one_more true (Err fault) rest parts part named made = cc
one_more false made rest parts part named is = cc

-- no change more, of one that names none
none_more : (b : Bool) (made : Result FieldChange DocFault) (rest : Result (List FieldChange) DocFault) (parts : List FieldChange) → b ≡ false
    → found_map (λ more. parts ++ more) (cond b (and_then (λ part. found_map (λ more. part ∷ more) rest) made) rest) ≡ found_map (λ more. parts ++ more) rest
none_more true made rest parts named = cc
none_more false made rest parts named = refl

pub loop-field-preserved : goal.loop-field-preserved
loop-field-preserved c =
    let fields : List RawField = c.args.fields.now in
    let field : RawField = c.field-item.result in
    let at : ℕ = c.loop-field.field-index in
    let others : List RawField = drop (at + 1) fields in
    let front : drop at fields ≡ field ∷ others = drop-cons fields at field (omega arith) ∙ (λ i. sym c.field-item.is i ∷ drop (sym (add-one at) i) fields) in
    let so_far : member_changes fields ≡ found_map (λ more. c.loop-field.parts ++ more) (member_changes (field ∷ others)) =
    c.loop-field.invariant ∙ ap (λ (left : List RawField). found_map (λ more. c.loop-field.parts ++ more) (member_changes left)) front in
    let name_is : c.is_field_name.result ≡ is_field_name field.name = c.is_field_name.ensures ∙ ap is_field_name c.as_str.ensures in
    let with_more = λ (parts : List FieldChange). found_map (λ more. parts ++ more) (member_changes others) in
    elim c.if-is_field_name.branch [
      | then-is_field_name+in_ok-part_of+in_ok-push w ↦
          so_far ∙ one_more (is_field_name field.name) (member_change field) (member_changes others) c.loop-field.parts w.in_ok-part_of.field-0 (sym name_is ∙ w.if-is_field_name.true) w.in_ok-part_of.ensures.ok
          ∙ ap with_more (sym w.in_ok-push.ensures.ok ∙ sym w.parts-is)
      | else-is_field_name w ↦
          so_far ∙ none_more (is_field_name field.name) (member_change field) (member_changes others) c.loop-field.parts (sym name_is ∙ w.if-is_field_name.false)
          ∙ ap with_more (sym w.parts-is)
    ]
