-- The law is the lemma on the faults of a query.
use Rattle.sc_eval.proofs.FaultLemmas.{names_the_first_fault}
use Rattle.sc_eval.proofs.laws.queries_are_bound_or_at_fault.Goals as goal

pub returns : goal.returns
returns c = names_the_first_fault
