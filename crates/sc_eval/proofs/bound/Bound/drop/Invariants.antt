-- The loop that drops a bound query ends.
use Rattle.sc_eval.proofs.WorkLemmas.{work_left}
use Rattle.sc_eval.proofs.bound.Bound.drop.Given as goal

abbrev pub decreases-loop-self : goal.decreases-loop-self
decreases-loop-self l = work_left l.self l.later
