-- The name is that of the sub's leader.
use Rattle.sc_handover.proofs.MadeLemmas.{leader_named}
use Rattle.sc_handover.proofs.beginning.first_core.Goals as goal

pub returns : goal.returns
returns c = leader_named c.args.sub.now.id c.leader.result c.leader.ensures.slice c.leader.ensures.first
