-- The test's rows come in order.
use Rattle.std.proofs.Common.{◌≡◌}
use Rattle.sc_tests.proofs.segments.fill.Given as goal

abbrev pub invariant-loop-row : goal.invariant-loop-row
invariant-loop-row g l = l.builder.last_row ≡ l.last
