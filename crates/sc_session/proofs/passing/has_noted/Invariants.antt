-- No stop that was passed made an entry of the board.
use Rattle.std.proofs.Common.{drop}
use Rattle.sc_session.specs.Serving.{NoteNothing}
use Rattle.sc_session.proofs.passing.has_noted.Given as goal

abbrev pub invariant-loop-at : goal.invariant-loop-at
invariant-loop-at l = NoteNothing l.board (drop l.at l.trail.stops) → NoteNothing l.board (drop l.from l.trail.stops)
