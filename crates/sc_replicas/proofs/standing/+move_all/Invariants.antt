-- Each call is over fewer searchers.
use Rattle.std.proofs.Common.{length}
use Rattle.sc_replicas.proofs.standing.+move_all.Given as goal

abbrev pub decreases-move_all : goal.decreases-move_all
decreases-move_all l = length l.searchers.now
