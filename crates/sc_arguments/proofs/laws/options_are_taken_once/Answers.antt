-- What is tested option by option is what is said of all of them.
use Rattle.sc_arguments.proofs.OrderLemmas.{taken_once}
use Rattle.sc_arguments.proofs.laws.options_are_taken_once.Goals as goal

pub returns : goal.returns
returns c = taken_once
