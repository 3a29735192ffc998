-- The rows so far come before the next one.
use Rattle.std.proofs.Common.{◌≤◌}
use Rattle.sc_tests.proofs.heads.fill.Given as goal

abbrev pub invariant-loop-row : goal.invariant-loop-row
invariant-loop-row l = l.builder.last_row ≤ l.row
