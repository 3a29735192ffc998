-- The law is the lemma on the slices that an event of a split is not about.
use Rattle.sc_world.proofs.OthersLemmas.{splits_leave_others_alone}
use Rattle.sc_world.proofs.laws.splits_leave_others_alone.Goals as goal

pub returns : goal.returns
returns c = splits_leave_others_alone
