-- All items before the index pass.
use Rattle.sc_commands.specs.Commands.{is_json_object}
use Rattle.sc_commands.proofs.FormLemmas.{PassBefore}
use Rattle.sc_commands.proofs.forms.objects.Given as goal

abbrev pub invariant-loop-at : goal.invariant-loop-at
invariant-loop-at l = PassBefore is_json_object l.at l.items
