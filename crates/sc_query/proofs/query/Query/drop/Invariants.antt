-- The loop that drops a query ends.
use Rattle.sc_query.proofs.WorkLemmas.{work_left}
use Rattle.sc_query.proofs.query.Query.drop.Given as goal

abbrev pub decreases-loop-self : goal.decreases-loop-self
decreases-loop-self l = work_left l.self l.later
