-- A right operand and that of a NOT have fewer nodes, and what is bound so far is bound with what waits to the whole.
use Rattle.std.proofs.Common.{◌≡◌, ◌<◌, Ok, vec_len}
use Rattle.sc_query.specs.Tree.{tree_of}
use Rattle.sc_eval.specs.Criteria.{criterion_of}
use Rattle.sc_eval.specs.Binding.{bound}
use Rattle.sc_eval.specs.Spine.{bound_with, nodes, waiting_nodes}
use Rattle.sc_eval.proofs.binder.+bind.Given as goal

abbrev pub decreases-bind : goal.decreases-bind
decreases-bind l = nodes (tree_of l.query.now)

abbrev pub invariant-loop-link : goal.invariant-loop-link
invariant-loop-link l = record {
  bound : bound (tree_of l.query) ≡ bound_with l.waiting.items (Ok (criterion_of l.found));
  smaller : waiting_nodes l.waiting.items < nodes (tree_of l.query);
}

abbrev pub decreases-loop-link : goal.decreases-loop-link
decreases-loop-link l = vec_len l.waiting
