-- The core at the place led the write.
use Rattle.std.specs.Arc.{arc_value}
use Rattle.sc_replica.specs.Core.{Core, led}
use Rattle.sc_replicas.proofs.ChangedAtLemmas.{here_at, set_at}
use Rattle.sc_replicas.proofs.replicas.Replicas.lead.Goals as goal

pub lead-requires-clause-above : goal.lead-requires-clause-above
lead-requires-clause-above c =
    c.requires.above c.index_mut.result.now (here_at c.self.inside.replicas.items c.args.self.now c.args.at c.index_mut.result.now c.self.view_is
    c.requires.within c.index_mut.ensures.value)

pub lead-requires-clause-room : goal.lead-requires-clause-room
lead-requires-clause-room c =
    c.requires.room c.index_mut.result.now (here_at c.self.inside.replicas.items c.args.self.now c.args.at c.index_mut.result.now c.self.view_is
    c.requires.within c.index_mut.ensures.value)

pub returns : goal.returns
returns c core there =
    set_at (λ (one : Core). led one (arc_value c.args.write)) c.self.inside.replicas.items c.args.self.now c.args.at core
    c.index_mut.result.now c.lead.new.self c.self.view_is there c.index_mut.ensures.value c.lead.ensures.value
