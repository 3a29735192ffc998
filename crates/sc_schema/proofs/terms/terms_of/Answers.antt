-- The term of the id comes last where its place has not come before, and what is built then are the terms of the document.
use Rattle.std.proofs.Common.{◌≡◌, ◌∙◌, [], Bool, true, false, List, sym, subst}
use Rattle.sc_values.specs.declared.field.Field.{Field}
use Rattle.sc_record.specs.TermsStates.{TermsState}
use Rattle.sc_schema.specs.Keys.{BuildsSoFar}
use Rattle.sc_schema.proofs.BuildLemmas.{IsBuilt, built_with, built_without, finished}
use Rattle.sc_schema.proofs.terms.terms_of.Goals as goal
use Rattle.sc_schema.proofs.terms.terms_of.Goals.{then-not-has_id+in_ok-push_id, else-not-has_id}

pub returns-clause-terms : goal.returns-clause-terms
returns-clause-terms c =
    let id = c.args.id.now in
    let fields : List Field = c.args.doc.now in
    let start : TermsState = c.reserve.new.self in
    let document = c.fields-field-items.ensures.document in
    let begins = c.in_ok-reserve.ensures ∙ c.new-terms.ensures in
    let so_far = subst (λ (left : List Field). BuildsSoFar fields left c.loop-field.has_id start c.loop-field.terms) c.in-None.ensures.steps.0 c.loop-field.invariant in
    let all : IsBuilt id fields c.if-not-has_id.terms =
    elim c.if-not-has_id.branch [
      | then-not-has_id+in_ok-push_id w ↦
          let off : c.loop-field.has_id ≡ false = cc in
          built_without id fields start c.loop-field.terms c.if-not-has_id.terms document begins
          (subst (λ (b : Bool). BuildsSoFar fields [] b start c.loop-field.terms) off so_far) (w.terms-is ∙ w.in_ok-push_id.ensures.ok)
      | else-not-has_id w ↦
          let on : c.loop-field.has_id ≡ true = cc in
          subst (IsBuilt id fields) (sym w.terms-is)
          (built_with id fields start c.loop-field.terms document begins (subst (λ (b : Bool). BuildsSoFar fields [] b start c.loop-field.terms) on so_far))
    ] in
    finished id fields c.if-not-has_id.terms c.finish.result all c.finish.ensures.terms
