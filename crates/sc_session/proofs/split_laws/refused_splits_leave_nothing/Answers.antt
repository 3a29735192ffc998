-- The law is the lemma on what a split that was refused leaves.
use Rattle.sc_session.proofs.SplitRefusedLemmas.{refused_splits_leave_nothing}
use Rattle.sc_session.proofs.split_laws.refused_splits_leave_nothing.Goals as goal

pub returns : goal.returns
returns c = refused_splits_leave_nothing
