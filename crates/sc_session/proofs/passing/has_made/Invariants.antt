-- No stop that was passed made an entry.
use Rattle.std.proofs.Common.{◌↔◌, drop}
use Rattle.sc_session.specs.Connection.{MakeNothing}
use Rattle.sc_session.proofs.passing.has_made.Given as goal

abbrev pub invariant-loop-at : goal.invariant-loop-at
invariant-loop-at l = MakeNothing (drop l.at l.trail.stops) ↔ MakeNothing (drop l.from l.trail.stops)
