-- What is asked for goes by which options there are, and each is there once.
use Rattle.sc_arguments.proofs.SameLemmas.{same_in_any_order}
use Rattle.sc_arguments.proofs.laws.options_come_in_any_order.Goals as goal

pub returns : goal.returns
returns c = same_in_any_order
