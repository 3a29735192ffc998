-- The core at the place was fed the write.
use Rattle.std.specs.Arc.{arc_value}
use Rattle.sc_replica.specs.Core.{Core, fed}
use Rattle.sc_replicas.proofs.ChangedAtLemmas.{here_at, set_at}
use Rattle.sc_replicas.proofs.replicas.Replicas.feed.Goals as goal

pub feed-requires : goal.feed-requires
feed-requires c =
    c.requires.room c.index_mut.result.now (here_at c.self.inside.replicas.items c.args.self.now c.args.at c.index_mut.result.now c.self.view_is
    c.requires.within c.index_mut.ensures.value)

pub returns : goal.returns
returns c core there =
    set_at (λ (one : Core). fed one (arc_value c.args.write)) c.self.inside.replicas.items c.args.self.now c.args.at core
    c.index_mut.result.now c.feed.new.self c.self.view_is there c.index_mut.ensures.value c.feed.ensures.value
