-- Nothing is out of the desk between two steps.
use Rattle.std.proofs.Common.{◌≡◌}
use Rattle.sc_collection.specs.Desks.{nothing_out}
use Rattle.sc_tests.proofs.splits.send_each.Given as goal

abbrev pub invariant-loop-step : goal.invariant-loop-step
invariant-loop-step g l =
    (goal.iterator-loop-step g).can_next l.step-iterator ×
    (goal.iterator-loop-step g).is_finite l.step-iterator ×
    g.D.Desk.out l.desk ≡ nothing_out
