-- What is put so far and the entries of the rest are all that is to be put.
use Rattle.std.proofs.Common.{◌≡◌, ◌++◌, drop}
use Rattle.sc_opening.specs.Closed.{entries_of}
use Rattle.sc_opening.proofs.closing.push_changes.Given as goal

abbrev pub invariant-loop-change : goal.invariant-loop-change
invariant-loop-change l = l.entries ++ entries_of (drop l.change-index l.done) ≡ l.initial.entries ++ entries_of l.done
