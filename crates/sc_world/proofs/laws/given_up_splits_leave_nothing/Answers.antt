-- The law is the lemma on a split that is given up.
use Rattle.sc_world.proofs.LawLemmas.{leaves_nothing}
use Rattle.sc_world.proofs.laws.given_up_splits_leave_nothing.Goals as goal

pub returns : goal.returns
returns c = leaves_nothing
