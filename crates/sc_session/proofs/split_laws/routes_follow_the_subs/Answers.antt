-- The law is the lemma on the slices that have a hash before and after a split.
use Rattle.sc_session.proofs.SplitRouteLemmas.{routes_follow_the_subs}
use Rattle.sc_session.proofs.split_laws.routes_follow_the_subs.Goals as goal

pub returns : goal.returns
returns c = routes_follow_the_subs
