-- Nothing is out of the desk between two requests.
use Rattle.std.proofs.Common.{◌≡◌}
use Rattle.sc_collection.specs.Desks.{nothing_out}
use Rattle.sc_tests.proofs.splits.converse.Given as goal

abbrev pub invariant-loop-request : goal.invariant-loop-request
invariant-loop-request g l = g.D.Desk.out l.desk ≡ nothing_out
