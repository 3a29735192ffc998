-- The core at the place was sent the write.
use Rattle.std.specs.Arc.{arc_value}
use Rattle.sc_replica.specs.Core.{Core, received}
use Rattle.sc_replicas.proofs.ChangedAtLemmas.{here_at, set_at}
use Rattle.sc_replicas.proofs.replicas.Replicas.receive.Goals as goal

pub receive-requires-clause-cell_room : goal.receive-requires-clause-cell_room
receive-requires-clause-cell_room c =
    (c.requires.room c.index_mut.result.now (here_at c.self.inside.replicas.items c.args.self.now c.args.at c.index_mut.result.now c.self.view_is
    c.requires.within c.index_mut.ensures.value)).0

pub receive-requires-clause-buffer_room : goal.receive-requires-clause-buffer_room
receive-requires-clause-buffer_room c =
    (c.requires.room c.index_mut.result.now (here_at c.self.inside.replicas.items c.args.self.now c.args.at c.index_mut.result.now c.self.view_is
    c.requires.within c.index_mut.ensures.value)).1

pub returns : goal.returns
returns c core there =
    set_at (λ (one : Core). received one (arc_value c.args.write)) c.self.inside.replicas.items c.args.self.now c.args.at core
    c.index_mut.result.now c.receive.new.self c.self.view_is there c.index_mut.ensures.value c.receive.ensures.value
