-- proofs/deleting/delete/Answers.antt
-- The slice is gone and its cores were stopped, or the board refused.
use Rattle.std.proofs.Common.{◌≡◌, ◌≤◌, subst, refl, ap, arith}
use Rattle.sc_seen.specs.Seen.{Layout, AreLegal}
use Rattle.sc_seen.specs.Moments.{view_of}
use Rattle.sc_io.specs.Hosts.{Reached}
use Rattle.sc_cores.specs.Cores.{outside_of}
use Rattle.sc_admin.specs.Deletes.{kept, dropped}
use Rattle.sc_admin.proofs.DeleteLemmas.{is_delete, refused_is, dropped_is}
use Rattle.sc_admin.proofs.deleting.delete.Goals as goal

pub returns-in-Ok-clause-delete : goal.returns-in-Ok-clause-delete
returns-in-Ok-clause-delete g c stops =
    let layout = g.D.Desk.layout c.args.desk.now in
    let old = view_of (g.D.Desk.seen c.args.desk.now) c.args.trail.now.stops in
    let new = view_of (g.D.Desk.seen c.drop_on_board.new.desk) c.drop_on_board.new.trail.stops in
    let legal : AreLegal layout (g.D.Desk.seen c.drop_on_board.new.desk) =
    subst (λ (l : Layout). AreLegal l (g.D.Desk.seen c.drop_on_board.new.desk)) c.drop_on_board.ensures.layout c.drop_on_board.ensures.rest.legal in
    let went = c.in-Ok.ensures.dropped in
    let starting : g.H.Hosts.start_faults c.args.hosts.now ≤ g.H.Hosts.start_faults c.stopped.new.hosts =
    let same = c.stopped.ensures.other_count in omega (arith, same) in
    let pace : stops ≤ stops = omega arith in
    let before = g.H.Hosts.reached c.args.hosts.now in
    let after = g.H.Hosts.reached c.stopped.new.hosts in
    let reached : after ≡ before = c.stopped.ensures.reached in
    let reaching : before.faults ≤ after.faults = let same : after.faults ≡ before.faults = ap (λ (r : Reached). r.faults) reached in omega (arith, same) in
    is_delete layout (dropped went.0) old new went.1 c.requires.rest.legal legal c.args.shard.now
    (outside_of (g.H.Hosts.started c.args.hosts.now) (g.H.Hosts.start_faults c.args.hosts.now) (g.H.Hosts.stop_faults c.args.hosts.now) stops (g.H.Hosts.reached c.args.hosts.now))
    (outside_of (g.H.Hosts.started c.stopped.new.hosts) (g.H.Hosts.start_faults c.stopped.new.hosts) (g.H.Hosts.stop_faults c.stopped.new.hosts) stops (g.H.Hosts.reached c.stopped.new.hosts))
    c.stopped.result (dropped_is layout old new went.0 went.1 c.args.shard.now c.stopped.result went.2)
    (c.stopped.ensures.stopped layout.nodes went.0 stops went.3)
    (record { starting = starting; stopping = c.stopped.ensures.no_fall; pace = pace; reaching = reaching }) c.stopped.ensures.other_count refl reached

pub returns-in-Err-clause-delete : goal.returns-in-Err-clause-delete
returns-in-Err-clause-delete g c stops =
    let layout = g.D.Desk.layout c.args.desk.now in
    let old = view_of (g.D.Desk.seen c.args.desk.now) c.args.trail.now.stops in
    let new = view_of (g.D.Desk.seen c.drop_on_board.new.desk) c.drop_on_board.new.trail.stops in
    let legal : AreLegal layout (g.D.Desk.seen c.drop_on_board.new.desk) =
    subst (λ (l : Layout). AreLegal l (g.D.Desk.seen c.drop_on_board.new.desk)) c.drop_on_board.ensures.layout c.drop_on_board.ensures.rest.legal in
    let went = c.in-Err.ensures.refused in
    let outside = outside_of (g.H.Hosts.started c.args.hosts.now) (g.H.Hosts.start_faults c.args.hosts.now) (g.H.Hosts.stop_faults c.args.hosts.now) stops (g.H.Hosts.reached c.args.hosts.now) in
    let starting : outside.start_faults ≤ outside.start_faults = omega arith in
    let stopping : outside.stop_faults ≤ outside.stop_faults = omega arith in
    let pace : stops ≤ stops = omega arith in
    let reaching : outside.reach.faults ≤ outside.reach.faults = omega arith in
    is_delete layout kept old new went.0 c.requires.rest.legal legal c.args.shard.now outside outside c.refusal.result
    (refused_is layout old new went.0 c.args.shard.now c.in-Err.fault c.refusal.result c.refusal.ensures went.1) refl
    (record { starting = starting; stopping = stopping; pace = pace; reaching = reaching }) refl refl refl
