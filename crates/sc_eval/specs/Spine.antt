-- What stands to the right of the leftmost operand of a query, and what both are bound to together.
use Rattle.std.specs.Prelude.{ℕ, ◌+◌, List, [], ◌∷◌, option_map, ok_or, Result, Ok}
use Rattle.sc_query.specs.Tree.{Tree, tree_of}
use Rattle.sc_eval.specs.Criteria.{Criterion}
use Rattle.sc_eval.specs.Binding.{leaf_term, made_of, made_of_both, bound}
use Rattle.sc_eval.specs.declared.binder.Link.{Link}
use Rattle.sc_eval.specs.declared.binder.Link.TheVariants as links
use Rattle.sc_eval.specs.declared.binder.Waiting.{Waiting}
use Rattle.sc_eval.specs.declared.binder.Operand.{Operand}
use Rattle.sc_eval.specs.declared.binder.Operand.TheVariants as operands

-- two criteria, joined
abbrev pub linked_by : Link → Criterion → Criterion → Criterion
linked_by links.And left right = Criterion.And left right
linked_by links.Or left right = Criterion.Or left right

-- what an operand is bound to, or its fault
abbrev pub operand_bound : Operand → Result Criterion ℕ
operand_bound operands.All = Ok Criterion.All
operand_bound (operands.Leaf field value at) = ok_or (option_map Criterion.Leaf (leaf_term field.now value.now)) at
operand_bound (operands.Not query) = made_of Criterion.Not (bound (tree_of query.now))

-- what the leftmost operand is bound to with all that waits, the innermost last
abbrev pub bound_with : List Waiting → Result Criterion ℕ → Result Criterion ℕ
bound_with [] left = left
bound_with (one ∷ waiting) left = made_of_both (linked_by one.link) (bound_with waiting left) (bound (tree_of one.right.now))

-- how many nodes a tree has
abbrev pub nodes : Tree → ℕ
nodes Tree.All = 1
nodes (Tree.Leaf field value at) = 1
nodes (Tree.Not t) = nodes t + 1
nodes (Tree.And s t) = nodes s + nodes t + 1
nodes (Tree.Or s t) = nodes s + nodes t + 1

-- how many an operand has
abbrev pub operand_nodes : Operand → ℕ
operand_nodes operands.All = 1
operand_nodes (operands.Leaf field value at) = 1
operand_nodes (operands.Not query) = nodes (tree_of query.now) + 1

-- and how many all that waits
abbrev pub waiting_nodes : List Waiting → ℕ
waiting_nodes [] = 0
waiting_nodes (one ∷ waiting) = nodes (tree_of one.right.now) + waiting_nodes waiting
