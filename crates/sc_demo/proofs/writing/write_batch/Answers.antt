-- A batch is made by one update.
use Rattle.std.proofs.Common.{◌≡◌, ◌∙◌, ◌≤◌, ◌+◌, ◌*◌, ◌/◌, ℕ, [], List, None, length, sym, ap, subst, arith}
use Rattle.sc_collection.specs.Kept.{Kept}
use Rattle.sc_io.specs.Hosts.{Reached}
use Rattle.sc_update.specs.Updated.{update_moment, IsUpdated}
use Rattle.sc_demo.specs.Writing.{ran_out, writing}
use Rattle.sc_demo.proofs.BatchLemmas.{batch_few, batch_made}
use Rattle.sc_demo.proofs.writing.write_batch.Goals as goal

-- no node failed to be reached
abbrev never : Reached
never = record { faults = 0; nodes = None }

pub update-end-requires-clause-room : goal.update-end-requires-clause-room
update-end-requires-clause-room g c =
    let none : length c.clear.new.self.stops ≡ 0 = ap (λ (kept : Kept). length kept.stops) c.clear.ensures in
    omega (arith, none, c.requires.plain.few, c.requires.buckets)

pub overflow_cast-result : goal.overflow_cast-result
overflow_cast-result g c =
    let few : c.len.result / 2 ≤ length c.args.batch.now.orders =
    batch_few g.C.Clock.gives (g.D.Desk.layout c.args.desk.now) c.args.batch.now (writing (g.D.Desk.seen c.args.desk.now) c.args.clock.now)
    (writing (g.D.Desk.seen c.update-end.new.desk) c.update-end.new.clock) c.update-end.new.trail.stops c.update-end.result never c.requires.plain
    (subst (λ (kept : Kept). IsUpdated g.C.Clock.gives (g.D.Desk.layout c.args.desk.now) c.args.batch.now
    (update_moment (g.D.Desk.seen c.args.desk.now) kept.stops c.args.clock.now never)
    (update_moment (g.D.Desk.seen c.update-end.new.desk) c.update-end.new.trail.stops c.update-end.new.clock never) c.update-end.result) c.clear.ensures
    c.update-end.ensures.updated) c.len.result c.len.ensures in
    omega (arith, few, c.requires.plain.few)

pub returns-clause-made : goal.returns-clause-made
returns-clause-made g c =
    batch_made g.C.Clock.gives (g.D.Desk.layout c.args.desk.now) c.args.batch.now (writing (g.D.Desk.seen c.args.desk.now) c.args.clock.now)
    (writing (g.D.Desk.seen c.update-end.new.desk) c.update-end.new.clock) c.update-end.new.trail.stops c.update-end.result never c.requires.plain
    (subst (λ (kept : Kept). IsUpdated g.C.Clock.gives (g.D.Desk.layout c.args.desk.now) c.args.batch.now
    (update_moment (g.D.Desk.seen c.args.desk.now) kept.stops c.args.clock.now never)
    (update_moment (g.D.Desk.seen c.update-end.new.desk) c.update-end.new.trail.stops c.update-end.new.clock never) c.update-end.result) c.clear.ensures
    c.update-end.ensures.updated) c.len.result c.ran_out.result c.len.ensures c.ran_out.ensures

pub returns-clause-few : goal.returns-clause-few
returns-clause-few g c =
    batch_few g.C.Clock.gives (g.D.Desk.layout c.args.desk.now) c.args.batch.now (writing (g.D.Desk.seen c.args.desk.now) c.args.clock.now)
    (writing (g.D.Desk.seen c.update-end.new.desk) c.update-end.new.clock) c.update-end.new.trail.stops c.update-end.result never c.requires.plain
    (subst (λ (kept : Kept). IsUpdated g.C.Clock.gives (g.D.Desk.layout c.args.desk.now) c.args.batch.now
    (update_moment (g.D.Desk.seen c.args.desk.now) kept.stops c.args.clock.now never)
    (update_moment (g.D.Desk.seen c.update-end.new.desk) c.update-end.new.trail.stops c.update-end.new.clock never) c.update-end.result) c.clear.ensures
    c.update-end.ensures.updated) c.len.result c.len.ensures
