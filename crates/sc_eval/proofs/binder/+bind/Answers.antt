-- A right operand is bound once what is to the left of it is, and the first fault is the whole's.
use Rattle.std.proofs.Common.{◌≡◌, ◌<◌, Ok, Err, ◌∙◌, ap, sym, arith}
use Rattle.std.specs.Option.{option_map, ok_or}
use Rattle.std.proofs.lemmas.Result.{err_from_is_err_and}
use Rattle.sc_query.specs.Tree.{tree_of}
use Rattle.sc_eval.specs.Criteria.{Criterion, criterion_of}
use Rattle.sc_eval.specs.Binding.{bound, made_of, made_of_both}
use Rattle.sc_eval.specs.Spine.{linked_by, operand_bound, bound_with, nodes, waiting_nodes}
use Rattle.sc_eval.specs.declared.fault.BindFault.TheVariants.{At}
use Rattle.sc_eval.proofs.SpineLemmas.{bound_with-back, fault-first, waiting_nodes-push}
use Rattle.sc_eval.proofs.binder.+bind.Goals as goal

pub returns-in_err-term-in-Leaf-clause-fault : goal.returns-in_err-term-in-Leaf-clause-fault
returns-in_err-term-in-Leaf-clause-fault t c at is =
    let p = err_from_is_err_and c.from_residual-in_err-term-in-Leaf.result c.from_residual-in_err-term-in-Leaf.ensures.1 in
    let given = p.1 in
    let kept = p.2 in
    let same : c.in_err-term-in-Leaf.field-0.0 ≡ At at = cc in
    let told = c.in_err-term-in-Leaf.ensures.fault at (ap Err same) in
    fault-first c.first_operand.new.waiting.items (bound (tree_of c.args.query.now)) (operand_bound c.in_ok-first_operand.field-0)
    at c.in_ok-first_operand.ensures.bound
    (ap operand_bound c.in-Leaf.is ∙ ap (λ found. ok_or (option_map Criterion.Leaf found) c.in-Leaf.at) told.0 ∙ ap Err (sym told.1))

pub returns-in_err-bind-in-Not-clause-fault : goal.returns-in_err-bind-in-Not-clause-fault
returns-in_err-bind-in-Not-clause-fault t c at is =
    let p = err_from_is_err_and c.from_residual-in_err-bind-in-Not.result c.from_residual-in_err-bind-in-Not.ensures.1 in
    let given = p.1 in
    let kept = p.2 in
    let same : c.in_err-bind-in-Not.field-0.0 ≡ At at = cc in
    fault-first c.first_operand.new.waiting.items (bound (tree_of c.args.query.now)) (operand_bound c.in_ok-first_operand.field-0)
    at c.in_ok-first_operand.ensures.bound
    (ap operand_bound c.in-Not.is ∙ ap (made_of Criterion.Not) (c.in_err-bind-in-Not.ensures.fault at (ap Err same)))

pub bind-requires-in-Some : goal.bind-requires-in-Some
bind-requires-in-Some t c =
    let popped = c.pop.new.self.items in
    let one = c.in-Some.field-0 in
    let all = ap waiting_nodes c.in-Some.ensures.items ∙ waiting_nodes-push popped one in
    let less : nodes (tree_of one.right.now) < nodes (tree_of c.args.query.now) = omega (arith, all, c.loop-link.invariant.smaller) in
    (omega (arith, less, c.decreases), tt)

pub returns-in_err-right-clause-fault : goal.returns-in_err-right-clause-fault
returns-in_err-right-clause-fault t c at is =
    let p = err_from_is_err_and c.from_residual-in_err-right.result c.from_residual-in_err-right.ensures.1 in
    let given = p.1 in
    let kept = p.2 in
    let same : c.in_err-right.field-0.0 ≡ At at = cc in
    let popped = c.pop.new.self.items in
    let one = c.in-Some.field-0 in
    let whole = bound (tree_of c.args.query.now) in
    let left = Ok (criterion_of c.loop-link.found) in
    let back = bound_with-back c.loop-link.waiting.items popped one whole left
    c.in-Some.ensures.items c.loop-link.invariant.bound in
    fault-first popped whole (made_of_both (linked_by one.link) left (bound (tree_of one.right.now))) at back
    (ap (made_of_both (linked_by one.link) left) (c.in_err-right.ensures.fault at (ap Err same)))

pub loop-link-preserved : goal.loop-link-preserved
loop-link-preserved t c =
    let popped = c.pop.new.self.items in
    let one = c.in-Some.field-0 in
    let whole = bound (tree_of c.args.query.now) in
    let left = Ok (criterion_of c.loop-link.found) in
    let back = bound_with-back c.loop-link.waiting.items popped one whole left
    c.in-Some.ensures.items c.loop-link.invariant.bound in
    let all = ap waiting_nodes c.in-Some.ensures.items ∙ waiting_nodes-push popped one in
    record {
      bound = back ∙ ap (bound_with popped) (ap (made_of_both (linked_by one.link) left) c.in_ok-right.ensures.bound
          ∙ ap Ok (sym c.in_ok-found.ensures));
      smaller = omega (arith, all, c.loop-link.invariant.smaller);
    }
