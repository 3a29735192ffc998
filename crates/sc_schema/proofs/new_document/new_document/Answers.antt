-- The field of the first of the members that are left comes after those so far, and all make the document.
use Rattle.std.proofs.Common.{◌≡◌, ◌∙◌, ℕ, ◌+◌, List, [], ◌∷◌, Ok, drop, sym, ap, subst, add-one, drop-cons, arith}
use Rattle.std.specs.List.{filter_map}
use Rattle.std.proofs.Math.ListN.{drop_of_length-le}
use Rattle.std.proofs.lemmas.Result.{err_from_is_err_and}
use Rattle.sc_spelling.specs.Reading.{read_of, rest_of}
use Rattle.sc_record.specs.declared.order.FieldChange.{FieldChange}
use Rattle.sc_schema.specs.Raw.{AscendByName}
use Rattle.sc_schema.specs.Documents.{field_of, found_map, member_changes, IsDocumentFault}
use Rattle.sc_schema.specs.declared.fault.DocFault.{DocFault}
use Rattle.sc_schema.specs.declared.raw.RawField.{RawField}
use Rattle.sc_schema.proofs.NewDocumentLemmas.{AreFieldsSoFar, one_field_more, all_fields, first_fault}
use Rattle.sc_schema.proofs.new_document.new_document.Goals as goal

pub loop-field-preserved : goal.loop-field-preserved
loop-field-preserved c =
    let fields : List RawField = c.as_slice-fields.result.now in
    let field : RawField = c.field-item.result in
    let at : ℕ = c.loop-field.field-index in
    let left : List RawField = drop (at + 1) fields in
    let front : drop at fields ≡ field ∷ left = drop-cons fields at field (omega arith) ∙ (λ i. sym c.field-item.is i ∷ drop (sym (add-one at) i) fields) in
    let so_far = subst (λ (l : List RawField). AreFieldsSoFar fields l c.loop-field.made) front c.loop-field.invariant in
    one_field_more fields left field c.loop-field.made c.push_member.new.made so_far c.in_ok-push_member.ensures.ok

pub finish-requires : goal.finish-requires
finish-requires c =
    let fields : List RawField = c.as_slice-fields.result.now in
    let none : drop c.loop-field.field-index fields ≡ [] = drop_of_length-le fields (omega arith) in
    let so_far = subst (λ (l : List RawField). AreFieldsSoFar fields l c.loop-field.made) none c.loop-field.invariant in
    let ascend = subst AscendByName (sym c.as_slice-fields.ensures) c.args.raw.now.ascend in
    ap rest_of (all_fields fields c.loop-field.made ascend so_far c.len-count.ensures.few).read

pub returns-in_err-push_member-clause-fault : goal.returns-in_err-push_member-clause-fault
returns-in_err-push_member-clause-fault c =
    let fields : List RawField = c.as_slice-fields.result.now in
    let field : RawField = c.field-item.result in
    let at : ℕ = c.loop-field.field-index in
    let left : List RawField = drop (at + 1) fields in
    let front : drop at fields ≡ field ∷ left = drop-cons fields at field (omega arith) ∙ (λ i. sym c.field-item.is i ∷ drop (sym (add-one at) i) fields) in
    let so_far = subst (λ (l : List RawField). AreFieldsSoFar fields l c.loop-field.made) front c.loop-field.invariant in
    let fault : DocFault = c.in_err-push_member.field-0.0 in
    let is : IsDocumentFault (member_changes c.args.raw.now.fields) fault =
    subst (λ (l : List RawField). IsDocumentFault (member_changes l) fault) c.as_slice-fields.ensures
    (first_fault fields left field c.loop-field.made fault so_far c.in_err-push_member.ensures.fault) in
    let p = err_from_is_err_and c.from_residual-in_err-push_member.result c.from_residual-in_err-push_member.ensures.1 in
    rw (p.1, p.2) is

pub returns-clause-ok : goal.returns-clause-ok
returns-clause-ok c =
    let fields : List RawField = c.as_slice-fields.result.now in
    let none : drop c.loop-field.field-index fields ≡ [] = drop_of_length-le fields (omega arith) in
    let so_far = subst (λ (l : List RawField). AreFieldsSoFar fields l c.loop-field.made) none c.loop-field.invariant in
    let ascend = subst AscendByName (sym c.as_slice-fields.ensures) c.args.raw.now.ascend in
    let all = all_fields fields c.loop-field.made ascend so_far c.len-count.ensures.few in
    let found : member_changes c.args.raw.now.fields ≡ Ok all.parts = ap member_changes (sym c.as_slice-fields.ensures) ∙ all.found in
    ap (found_map (λ (parts : List FieldChange). filter_map field_of parts)) found ∙ ap Ok (sym (c.in_ok-finish.ensures ∙ ap read_of all.read))
