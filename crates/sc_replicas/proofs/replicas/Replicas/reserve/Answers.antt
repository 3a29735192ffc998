-- The core at the place has the room, or nothing changed.
use Rattle.sc_replicas.proofs.ChangedAtLemmas.{set_where_ok, same_where_err}
use Rattle.sc_replicas.specs.Cores.{with_room}
use Rattle.sc_replicas.proofs.replicas.Replicas.reserve.Goals as goal

pub returns-clause-ok : goal.returns-clause-ok
returns-clause-ok c =
    set_where_ok (with_room c.args.n) c.reserve.result c.self.inside.replicas.items c.args.self.now c.args.at c.index_mut.result.now
    c.reserve.new.self c.self.view_is c.index_mut.ensures.value c.reserve.ensures.ok

pub returns-clause-err : goal.returns-clause-err
returns-clause-err c =
    same_where_err c.reserve.result c.self.inside.replicas.items c.args.self.now c.args.at c.index_mut.result.now
    c.reserve.new.self c.self.view_is c.index_mut.ensures.value c.reserve.ensures.err
