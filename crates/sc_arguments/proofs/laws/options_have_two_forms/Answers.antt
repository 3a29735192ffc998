-- Both forms have the same settings.
use Rattle.sc_arguments.proofs.FormLemmas.{same_in_both_forms}
use Rattle.sc_arguments.proofs.laws.options_have_two_forms.Goals as goal

pub returns : goal.returns
returns c = same_in_both_forms
