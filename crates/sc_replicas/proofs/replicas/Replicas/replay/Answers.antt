-- The core at the place replayed some of its buffer, or all.
use Rattle.std.proofs.Common.{◌≡◌, [], subst}
use Rattle.std.specs.Prelude.{◌↔◌, IsTrue}
use Rattle.sc_ulog.specs.declared.mode.Mode.TheVariants.{Active}
use Rattle.sc_replica.specs.Core.{Core, replayed}
use Rattle.sc_replicas.proofs.ChangedAtLemmas.{here_at, changed_at, set_at}
use Rattle.sc_replicas.proofs.replicas.Replicas.replay.Goals as goal

pub replay-requires-clause-replaying : goal.replay-requires-clause-replaying
replay-requires-clause-replaying c =
    c.requires.replaying c.index_mut.result.now (here_at c.self.inside.replicas.items c.args.self.now c.args.at c.index_mut.result.now c.self.view_is
    c.requires.within c.index_mut.ensures.value)

pub replay-requires-clause-room : goal.replay-requires-clause-room
replay-requires-clause-room c =
    c.requires.room c.index_mut.result.now (here_at c.self.inside.replicas.items c.args.self.now c.args.at c.index_mut.result.now c.self.view_is
    c.requires.within c.index_mut.ensures.value)

pub returns-clause-value : goal.returns-clause-value
returns-clause-value c core there =
    set_at replayed c.self.inside.replicas.items c.args.self.now c.args.at core
    c.index_mut.result.now c.replay.new.self c.self.view_is there c.index_mut.ensures.value c.replay.ensures.value

pub returns-clause-done : goal.returns-clause-done
returns-clause-done c core there =
    subst (λ (one : Core). IsTrue c.replay.result ↔ (one.buffer ≡ []))
    (changed_at replayed c.self.inside.replicas.items c.args.self.now c.args.at core c.index_mut.result.now c.replay.new.self c.self.view_is there
    c.index_mut.ensures.value c.replay.ensures.value) c.replay.ensures.done

pub returns-clause-active : goal.returns-clause-active
returns-clause-active c core there =
    subst (λ (one : Core). IsTrue c.replay.result ↔ (one.mode ≡ Active))
    (changed_at replayed c.self.inside.replicas.items c.args.self.now c.args.at core c.index_mut.result.now c.replay.new.self c.self.view_is there
    c.index_mut.ensures.value c.replay.ensures.value) c.replay.ensures.active
