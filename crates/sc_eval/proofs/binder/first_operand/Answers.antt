-- A right operand that waits is joined to what its left one is bound to.
use Rattle.std.proofs.Common.{ℕ, ◌∙◌, ap, arith}
use Rattle.sc_query.specs.Tree.{tree_of}
use Rattle.sc_query.specs.declared.query.Query.{Query}
use Rattle.sc_eval.specs.Binding.{bound}
use Rattle.sc_eval.specs.Spine.{bound_with, nodes, waiting_nodes}
use Rattle.sc_eval.specs.declared.binder.Link.TheVariants as links
use Rattle.sc_eval.specs.declared.binder.Waiting.{Waiting}
use Rattle.sc_eval.proofs.SpineLemmas.{bound_with-step, waiting_nodes-push}
use Rattle.sc_eval.proofs.binder.first_operand.Goals as goal

pub loop-query-preserved-in-And : goal.loop-query-preserved-in-And
loop-query-preserved-in-And c =
    let waiting = c.loop-query.waiting.items in
    let one : Waiting = record { link = links.And; right = c.deref-in-And.result } in
    let size : Query → ℕ = λ q. nodes (tree_of q) in
    let pushed = ap waiting_nodes c.in_ok-push-in-And.ensures.items ∙ waiting_nodes-push waiting one in
    record {
      bound = rw c.deref-query.ensures (bound_with-step waiting c.push.new.self.items one (bound (tree_of c.args.query.now))
          (bound (tree_of c.in-And.left.value)) c.in_ok-push-in-And.ensures.items
          (rw c.deref-in-And.ensures (c.loop-query.invariant.bound
          ∙ ap (λ (q : Query). bound_with waiting (bound (tree_of q))) c.in-And.is)));
      smaller = omega (
        arith,
        c.loop-query.invariant.smaller,
        pushed,
        ap size c.in-And.is,
        ap size c.deref-query.ensures,
        ap size c.deref-in-And.ensures,
      );
    }

pub loop-query-preserved : goal.loop-query-preserved
loop-query-preserved c =
    let waiting = c.loop-query.waiting.items in
    let one : Waiting = record { link = links.Or; right = c.deref-in-Or.result } in
    let size : Query → ℕ = λ q. nodes (tree_of q) in
    let pushed = ap waiting_nodes c.in_ok-push-in-Or.ensures.items ∙ waiting_nodes-push waiting one in
    record {
      bound = rw c.deref-query-in-Or.ensures (bound_with-step waiting c.push-in-Or.new.self.items one (bound (tree_of c.args.query.now))
          (bound (tree_of c.in-Or.left.value)) c.in_ok-push-in-Or.ensures.items
          (rw c.deref-in-Or.ensures (c.loop-query.invariant.bound
          ∙ ap (λ (q : Query). bound_with waiting (bound (tree_of q))) c.in-Or.is)));
      smaller = omega (
        arith,
        c.loop-query.invariant.smaller,
        pushed,
        ap size c.in-Or.is,
        ap size c.deref-query-in-Or.ensures,
        ap size c.deref-in-Or.ensures,
      );
    }
