-- Which NOTs are still to come.
use Rattle.std.proofs.Common.{◌≡◌, ◌-◌}
use Rattle.sc_query.specs.Tree.{tree_of, negated}
use Rattle.sc_query.proofs.reader.negated.Given as goal

-- the NOTs that are left make the whole of what is there
abbrev pub invariant-loop : goal.invariant-loop
invariant-loop l = negated (l.negations - l.counter) (tree_of l.query) ≡ negated l.negations (tree_of l.initial.query)
