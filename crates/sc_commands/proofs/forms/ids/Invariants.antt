-- All items before the index pass.
use Rattle.sc_commands.specs.Commands.{can_be_id}
use Rattle.sc_commands.proofs.FormLemmas.{PassBefore}
use Rattle.sc_commands.proofs.forms.ids.Given as goal

abbrev pub invariant-loop-at : goal.invariant-loop-at
invariant-loop-at l = PassBefore can_be_id l.at l.items
