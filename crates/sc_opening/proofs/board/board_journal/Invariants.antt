-- The entries so far and those of the rest are all.
use Rattle.std.proofs.Common.{◌≡◌, ◌++◌, drop}
use Rattle.sc_opening.specs.Collections.{board_of}
use Rattle.sc_opening.proofs.board.board_journal.Given as goal

abbrev pub invariant-loop-change : goal.invariant-loop-change
invariant-loop-change l = l.entries ++ board_of (drop l.change-index l.done) ≡ board_of l.done
