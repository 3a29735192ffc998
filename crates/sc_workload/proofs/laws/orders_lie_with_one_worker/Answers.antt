-- The law is a lemma.
use Rattle.sc_workload.proofs.LawLemmas.{lie_with_one}
use Rattle.sc_workload.proofs.laws.orders_lie_with_one_worker.Goals as goal

pub returns : goal.returns
returns c = lie_with_one
