-- A right operand that waits is joined to its left one.
use Rattle.std.proofs.Common.{ap, sym, ◌∙◌}
use Rattle.sc_eval.specs.Criteria.{Criterion, criterion_of}
use Rattle.sc_eval.specs.Operands.{criterion_with}
use Rattle.sc_eval.specs.declared.bound.Bound.{Bound}
use Rattle.sc_eval.specs.declared.operand.Right.{Right}
use Rattle.sc_rows.specs.declared.joining.Kept.TheVariants.{Either}
use Rattle.sc_eval.proofs.OperandLemmas.{criterion_with-step}
use Rattle.sc_eval.proofs.operand.first_operand.Goals as goal

pub loop-query-preserved-in-And : goal.loop-query-preserved-in-And
loop-query-preserved-in-And c =
    let waiting = c.loop-query.waiting.items in
    let one = c.joined_by_and.result in
    let left = criterion_of c.in-And.left.value in
    rw c.deref-query.ensures (criterion_with-step waiting c.push.new.self.items one (criterion_of c.args.query.now) left
    c.in_ok-push-in-And.ensures.items
    (c.loop-query.invariant ∙ ap (λ (q : Bound). criterion_with waiting (criterion_of q)) c.in-And.is
    ∙ ap (λ (q : Bound). criterion_with waiting (Criterion.And left (criterion_of q))) (sym c.deref-in-And.ensures)
    ∙ ap (criterion_with waiting) (sym (c.joined_by_and.ensures left))))

pub loop-query-preserved : goal.loop-query-preserved
loop-query-preserved c =
    let waiting = c.loop-query.waiting.items in
    let one : Right = record { how = Either; operand = c.deref-in-Or.result } in
    let left = criterion_of c.in-Or.left.value in
    rw c.deref-query-in-Or.ensures (criterion_with-step waiting c.push-in-Or.new.self.items one (criterion_of c.args.query.now) left
    c.in_ok-push-in-Or.ensures.items
    (c.loop-query.invariant ∙ ap (λ (q : Bound). criterion_with waiting (criterion_of q)) c.in-Or.is
    ∙ ap (λ (q : Bound). criterion_with waiting (Criterion.Or left (criterion_of q))) (sym c.deref-in-Or.ensures)))
