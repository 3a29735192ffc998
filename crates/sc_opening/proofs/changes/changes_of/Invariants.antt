-- What was found so far and what the rest says, with the split that is open so far, is what the journal says.
use Rattle.std.proofs.Common.{◌≡◌, ◌++◌, drop}
use Rattle.sc_opening.specs.Changes.{changes_after, changes}
use Rattle.sc_opening.specs.Running.{plan_if}
use Rattle.sc_opening.proofs.changes.changes_of.Given as goal

abbrev pub invariant-loop-entry : goal.invariant-loop-entry
invariant-loop-entry l = l.found ++ changes_after (plan_if l.running) (drop l.entry-index l.journal) ≡ changes l.journal
