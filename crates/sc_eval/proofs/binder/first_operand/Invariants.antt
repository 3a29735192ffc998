-- What was passed waits, and is bound with what is left to the whole.
use Rattle.std.proofs.Common.{◌≡◌, ◌+◌, ◌≤◌}
use Rattle.sc_query.specs.Tree.{tree_of}
use Rattle.sc_eval.specs.Binding.{bound}
use Rattle.sc_eval.specs.Spine.{bound_with, nodes, waiting_nodes}
use Rattle.sc_eval.proofs.binder.first_operand.Given as goal

abbrev pub invariant-loop-query : goal.invariant-loop-query
invariant-loop-query l = record {
  bound : bound (tree_of l.fn.query) ≡ bound_with l.waiting.items (bound (tree_of l.query));
  smaller : waiting_nodes l.waiting.items + nodes (tree_of l.query) ≤ nodes (tree_of l.fn.query);
}
