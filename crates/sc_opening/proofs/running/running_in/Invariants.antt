-- The split that is open so far and the rest have that which is open in the journal.
use Rattle.std.proofs.Common.{◌≡◌, drop}
use Rattle.std.specs.List.{fold}
use Rattle.sc_opening.specs.Changes.{begun_after, open_begun}
use Rattle.sc_opening.specs.Running.{plan_if}
use Rattle.sc_opening.proofs.running.running_in.Given as goal

abbrev pub invariant-loop-entry : goal.invariant-loop-entry
invariant-loop-entry l = fold begun_after (plan_if l.running) (drop l.entry-index l.journal) ≡ open_begun l.journal
