-- proofs/cores/leaders/Answers.antt
-- The core that comes next leads the sub that comes next.
use Rattle.std.proofs.Common.{◌≡◌, arith}
use Rattle.std.proofs.lemmas.Grind.{common_steps}
use Rattle.sc_handover.specs.Made.{first_core}
use Rattle.sc_handover.proofs.MadeLemmas.{leader_named}
use Rattle.sc_split.proofs.cores.leaders.Goals as goal

pub loop-sub-preserved : goal.loop-sub-preserved
loop-sub-preserved c =
    let same : c.leader.result ≡ first_core c.sub-item.result =
    leader_named c.sub-item.result.id c.leader.result c.leader.ensures.slice c.leader.ensures.first in
    grind (arith, common_steps, same)
