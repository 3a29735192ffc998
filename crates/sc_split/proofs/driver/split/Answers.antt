-- The split went on from its stop of the board, or was refused there.
use Rattle.std.proofs.Common.{sym, subst}
use Rattle.sc_seen.specs.Moments.{view_of}
use Rattle.sc_board.specs.Splits.{asked_for}
use Rattle.sc_split.specs.declared.end.SplitEnd.{SplitEnd}
use Rattle.sc_cores.specs.Cores.{outside_of}
use Rattle.sc_split.specs.Splits.{IsSplit, split_moment}
use Rattle.sc_split.proofs.SplitLemmas.{split-refused, split-went}
use Rattle.sc_split.proofs.driver.split.Goals as goal

pub returns-in-Ok-clause-split : goal.returns-in-Ok-clause-split
returns-in-Ok-clause-split g c =
    split-went (g.D.Desk.layout c.args.desk.now) (g.D.Desk.layout c.open.new.desk) (asked_for c.args.shard.now c.args.cut.now)
    (view_of (g.D.Desk.seen c.args.desk.now) c.args.trail.now.stops) (view_of (g.D.Desk.seen c.open.new.desk) c.open.new.trail.stops)
    (view_of (g.D.Desk.seen c.run.new.desk) c.run.new.trail.stops) c.in-Ok.plan
    (outside_of (g.H.Hosts.started c.args.hosts.now) (g.H.Hosts.start_faults c.args.hosts.now) (g.H.Hosts.stop_faults c.args.hosts.now) (g.P.Pace.stops c.args.pace.now) (g.H.Hosts.reached c.args.hosts.now))
    (outside_of (g.H.Hosts.started c.run.new.hosts) (g.H.Hosts.start_faults c.run.new.hosts) (g.H.Hosts.stop_faults c.run.new.hosts) (g.P.Pace.stops c.run.new.pace) (g.H.Hosts.reached c.run.new.hosts))
    c.run.result c.open.ensures.leaves.layout c.in-Ok.ensures.opened.0 c.run.ensures.went

pub returns-in-Err-clause-split : goal.returns-in-Err-clause-split
returns-in-Err-clause-split g c =
    let outside = outside_of (g.H.Hosts.started c.args.hosts.now) (g.H.Hosts.start_faults c.args.hosts.now) (g.H.Hosts.stop_faults c.args.hosts.now) (g.P.Pace.stops c.args.pace.now) (g.H.Hosts.reached c.args.hosts.now) in
    subst (λ (end : SplitEnd). IsSplit (g.D.Desk.layout c.args.desk.now) (asked_for c.args.shard.now c.args.cut.now)
    (split_moment (view_of (g.D.Desk.seen c.args.desk.now) c.args.trail.now.stops) outside)
    (split_moment (view_of (g.D.Desk.seen c.open.new.desk) c.open.new.trail.stops) outside) end) (sym c.refusal.ensures)
    (split-refused (g.D.Desk.layout c.args.desk.now) (asked_for c.args.shard.now c.args.cut.now)
    (view_of (g.D.Desk.seen c.args.desk.now) c.args.trail.now.stops) (view_of (g.D.Desk.seen c.open.new.desk) c.open.new.trail.stops)
    outside c.in-Err.fault c.in-Err.ensures.refused)
