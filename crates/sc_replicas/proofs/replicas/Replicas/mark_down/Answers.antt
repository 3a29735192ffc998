-- The core at the place is down.
use Rattle.std.proofs.Common.{true}
use Rattle.sc_replica.specs.Core.{Core}
use Rattle.sc_replicas.proofs.ChangedAtLemmas.{set_at}
use Rattle.sc_replicas.proofs.replicas.Replicas.mark_down.Goals as goal

pub returns : goal.returns
returns c core there =
    set_at (λ (one : Core). record one { down = true }) c.self.inside.replicas.items c.args.self.now c.args.at core
    c.index_mut.result.now c.mark_down.new.self c.self.view_is there c.index_mut.ensures.value c.mark_down.ensures.value
