-- What was written so far is a prefix of the piece.
use Rattle.std.proofs.Common.{◌≤◌, length}
use Rattle.sc_io.proofs.WrittenLemmas.{HasPrefix}
use Rattle.sc_io.proofs.machine.write_whole.Given as goal

abbrev pub invariant-loop : goal.invariant-loop
invariant-loop g l = (l.done ≤ length l.piece) × HasPrefix (g.O.Write.contents l.initial.output) (g.O.Write.contents l.output) l.piece l.done
