-- The law is the lemma on a journal that is closed already.
use Rattle.sc_opening.proofs.ClosedLemmas.{opening_twice}
use Rattle.sc_opening.proofs.laws.opening_twice.Goals as goal

pub returns : goal.returns
returns c = opening_twice
