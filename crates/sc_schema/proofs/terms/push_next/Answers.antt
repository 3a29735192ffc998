-- The term of the id has its place before the first field whose name does not come before its own.
use Rattle.std.proofs.Common.{◌∙◌, ◌∷◌, Bool, ap, sym, subst}
use Rattle.std.specs.Ordering.{is_lt}
use Rattle.sc_spelling.specs.Lent.{field_of}
use Rattle.sc_schema.specs.Keys.{BuildsSoFar}
use Rattle.sc_schema.proofs.BuildLemmas.{is_below, is_not_below, before_id, at_id, after_id}
use Rattle.sc_schema.proofs.terms.push_next.Goals as goal

pub returns-then-has_id : goal.returns-then-has_id
returns-then-has_id c = λ all left start so_far.
    after_id all left (field_of c.args.field) start c.args.terms.now c.push_field.new.terms
    (subst (λ (b : Bool). BuildsSoFar all (field_of c.args.field ∷ left) b start c.args.terms.now) c.if-has_id.true so_far) c.in_ok-push_field.ensures

pub returns-then-is_lt : goal.returns-then-is_lt
returns-then-is_lt c = λ all left start so_far.
    before_id all left (field_of c.args.field) start c.args.terms.now c.push_field-then-is_lt.new.terms
    (subst (λ (b : Bool). BuildsSoFar all (field_of c.args.field ∷ left) b start c.args.terms.now) c.if-has_id.false so_far)
    (is_below _ (ap is_lt (sym c.cmp.ensures) ∙ sym c.is_lt.ensures ∙ c.if-is_lt.true)) c.in_ok-push_field-2.ensures

pub returns : goal.returns
returns c = λ all left start so_far.
    at_id all left (field_of c.args.field) start c.args.terms.now c.push_id.new.self c.push_field-2.new.terms
    (subst (λ (b : Bool). BuildsSoFar all (field_of c.args.field ∷ left) b start c.args.terms.now) c.if-has_id.false so_far)
    (is_not_below _ (ap is_lt (sym c.cmp.ensures) ∙ sym c.is_lt.ensures ∙ c.if-is_lt.false)) c.in_ok-push_id.ensures.ok c.in_ok-push_field-3.ensures
