-- The law is the lemma on closed journals.
use Rattle.sc_opening.proofs.ClosedLemmas.{closed_is_legal}
use Rattle.sc_opening.proofs.laws.closed_is_legal.Goals as goal

pub returns-clause-legal : goal.returns-clause-legal
returns-clause-legal c = closed_is_legal
