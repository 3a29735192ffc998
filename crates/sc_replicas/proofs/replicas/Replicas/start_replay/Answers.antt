-- The core at the place replays.
use Rattle.sc_replica.specs.Deliveries.{replaying}
use Rattle.sc_replicas.proofs.ChangedAtLemmas.{here_at, set_at}
use Rattle.sc_replicas.proofs.replicas.Replicas.start_replay.Goals as goal

pub start_replay-requires : goal.start_replay-requires
start_replay-requires c =
    c.requires.buffering c.index_mut.result.now (here_at c.self.inside.replicas.items c.args.self.now c.args.at c.index_mut.result.now c.self.view_is
    c.requires.within c.index_mut.ensures.value)

pub returns : goal.returns
returns c core there =
    set_at replaying c.self.inside.replicas.items c.args.self.now c.args.at core
    c.index_mut.result.now c.start_replay.new.self c.self.view_is there c.index_mut.ensures.value c.start_replay.ensures.value
