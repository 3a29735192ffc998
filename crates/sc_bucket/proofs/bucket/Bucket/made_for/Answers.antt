-- The write that an order makes, or why there is none.
use Rattle.std.proofs.Common.{◌≡◌, Option, List, to_z, of_z, w32, w64, sym, ap, ◌∙◌, subst, arith}
use Rattle.std.proofs.lemmas.Int.{ints}
use Rattle.std.proofs.lemmas.Result.{IfOk-weaker}
use Rattle.sc_values.specs.declared.field.Field.{Field}
use Rattle.sc_record.specs.Writes.{Write}
use Rattle.sc_record.specs.declared.order.Change.{Change}
use Rattle.sc_record.specs.declared.order.FieldChange.{FieldChange}
use Rattle.sc_partial.specs.Resolved.{first_refused, IsChanged}
use Rattle.sc_journal.specs.Journal.{last_write}
use Rattle.sc_journal.specs.Outcomes.{Makes, refused, IsFitting, live_fields}
use Rattle.sc_bucket.proofs.OutcomeLemmas.{condition_tested, same_names}
use Rattle.sc_bucket.proofs.bucket.Bucket.made_for.Goals as goal

pub returns-in-Whole-clause-fitting : goal.returns-in-Whole-clause-fitting
returns-in-Whole-clause-fitting c =
    let back : to_z w64 (of_z w64 c.found-found.result) ≡ c.found-found.result = omega (arith, ints) in
    let condition : to_z w64 (of_z w64 c.args.order.now.condition) ≡ c.args.order.now.condition = omega (arith, ints) in
    IfOk-weaker c.write_of.result _ (λ _. IsFitting c.args.self.now.journal.entries c.args.order.now)
    (λ write made. record {
      met = condition_tested c.args.self.now.journal.entries c.args.order.now _ _ _ _ c.requires.last condition (back ∙ c.found-found.ensures)
          (sym c.if-not-meets.false ∙ c.meets.ensures);
      taken = ap (refused (last_write c.args.self.now.journal.entries c.args.order.now.id)) c.in-Whole.is;
    })
    c.write_of.ensures.made

pub returns-in-Whole-clause-made : goal.returns-in-Whole-clause-made
returns-in-Whole-clause-made c =
    let hash : to_z w32 (of_z w32 c.args.hash) ≡ c.args.hash = omega (arith, ints) in
    let version : to_z w64 (of_z w64 c.args.version) ≡ c.args.version = omega (arith, ints) in
    IfOk-weaker c.write_of.result _ _
    (λ write made. (
      subst (λ (change : Change). Makes (last_write c.args.self.now.journal.entries c.args.order.now.id) change write.doc)
          (sym c.in-Whole.is) made.0,
      same_names _ _ _ _ _ _ hash version made.1,
    ))
    c.write_of.ensures.made

pub returns-in_ok-doc-in-Parts-clause-fitting : goal.returns-in_ok-doc-in-Parts-clause-fitting
returns-in_ok-doc-in-Parts-clause-fitting c =
    let back : to_z w64 (of_z w64 c.found-found.result) ≡ c.found-found.result = omega (arith, ints) in
    let condition : to_z w64 (of_z w64 c.args.order.now.condition) ≡ c.args.order.now.condition = omega (arith, ints) in
    let last = last_write c.args.self.now.journal.entries c.args.order.now.id in
    IfOk-weaker c.write_of-in-Parts.result _ (λ _. IsFitting c.args.self.now.journal.entries c.args.order.now)
    (λ write made. record {
      met = condition_tested c.args.self.now.journal.entries c.args.order.now _ _ _ _ c.requires.last condition (back ∙ c.found-found.ensures)
          (sym c.if-not-meets.false ∙ c.meets.ensures);
      taken = ap (refused last) c.in-Parts.is
          ∙ ap (λ (write : Option Write). first_refused (live_fields write) c.in-Parts.parts) (sym c.requires.last)
          ∙ ap (λ (fields : List Field). first_refused fields c.in-Parts.parts) c.live.ensures.fields
          ∙ ap (first_refused _) (sym c.as_slice.ensures)
          ∙ c.in_ok-doc-in-Parts.ensures.accepted;
    })
    c.write_of-in-Parts.ensures.made

pub returns-in_ok-doc-in-Parts-clause-made : goal.returns-in_ok-doc-in-Parts-clause-made
returns-in_ok-doc-in-Parts-clause-made c =
    let hash : to_z w32 (of_z w32 c.args.hash) ≡ c.args.hash = omega (arith, ints) in
    let version : to_z w64 (of_z w64 c.args.version) ≡ c.args.version = omega (arith, ints) in
    let last = last_write c.args.self.now.journal.entries c.args.order.now.id in
    let old : live_fields last ≡ _ = ap live_fields (sym c.requires.last) ∙ c.live.ensures.fields in
    let changed : IsChanged (live_fields last) c.in-Parts.parts c.in_ok-doc-in-Parts.doc =
    subst (λ (changes : List FieldChange). IsChanged (live_fields last) changes c.in_ok-doc-in-Parts.doc) c.as_slice.ensures
    (subst (λ (fields : List Field). IsChanged fields c.as_slice.result.now c.in_ok-doc-in-Parts.doc) (sym old) c.in_ok-doc-in-Parts.ensures.document) in
    IfOk-weaker c.write_of-in-Parts.result _ _
    (λ write made. (
      subst (λ (change : Change). Makes last change write.doc) (sym c.in-Parts.is) (c.in_ok-doc-in-Parts.doc, made.0, changed),
      same_names _ _ _ _ _ _ hash version made.1,
    ))
    c.write_of-in-Parts.ensures.made

pub returns-in-Delete-clause-fitting : goal.returns-in-Delete-clause-fitting
returns-in-Delete-clause-fitting c =
    let back : to_z w64 (of_z w64 c.found-found.result) ≡ c.found-found.result = omega (arith, ints) in
    let condition : to_z w64 (of_z w64 c.args.order.now.condition) ≡ c.args.order.now.condition = omega (arith, ints) in
    IfOk-weaker c.write_of-in-Delete.result _ (λ _. IsFitting c.args.self.now.journal.entries c.args.order.now)
    (λ write made. record {
      met = condition_tested c.args.self.now.journal.entries c.args.order.now _ _ _ _ c.requires.last condition (back ∙ c.found-found.ensures)
          (sym c.if-not-meets.false ∙ c.meets.ensures);
      taken = ap (refused (last_write c.args.self.now.journal.entries c.args.order.now.id)) c.in-Delete.is;
    })
    c.write_of-in-Delete.ensures.made

pub returns-in-Delete-clause-made : goal.returns-in-Delete-clause-made
returns-in-Delete-clause-made c =
    let hash : to_z w32 (of_z w32 c.args.hash) ≡ c.args.hash = omega (arith, ints) in
    let version : to_z w64 (of_z w64 c.args.version) ≡ c.args.version = omega (arith, ints) in
    IfOk-weaker c.write_of-in-Delete.result _ _
    (λ write made. (
      subst (λ (change : Change). Makes (last_write c.args.self.now.journal.entries c.args.order.now.id) change write.doc)
          (sym c.in-Delete.is) made.0,
      same_names _ _ _ _ _ _ hash version made.1,
    ))
    c.write_of-in-Delete.ensures.made
