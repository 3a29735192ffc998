-- The copies and the values that are left are all values.
use Rattle.std.proofs.Common.{◌≡◌, ◌++◌}
use Rattle.sc_spelling.proofs.value.Values.to_values.Given as goal

abbrev pub invariant-loop-value : goal.invariant-loop-value
invariant-loop-value l = l.copies ++ l.value-iterator ≡ l.fn.self
