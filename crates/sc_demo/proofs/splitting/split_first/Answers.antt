-- The split's trail begins empty.
use Rattle.std.proofs.Common.{◌≡◌, ℕ, length, ap, arith, subst, [], List}
use Rattle.sc_collection.specs.Kept.{Kept}
use Rattle.sc_cores.specs.Cores.{outside_of}
use Rattle.sc_seen.specs.Moments.{view_of}
use Rattle.sc_split.specs.Splits.{IsSplit, split_moment}
use Rattle.sc_demo.specs.Splitting.{first_shard}
use Rattle.sc_demo.proofs.splitting.split_first.Goals as goal

pub split-requires-clause-room : goal.split-requires-clause-room
split-requires-clause-room g c =
    let none : length c.clear.new.self.stops ≡ 0 = ap (λ (kept : Kept). length kept.stops) c.clear.ensures in
    omega (arith, none, c.requires.buckets)

pub returns-clause-split : goal.returns-clause-split
returns-clause-split g c = record {
  stops = c.split.new.trail.stops;
  is = subst (λ (kept : Kept). IsSplit (g.D.Desk.layout c.args.desk.now) first_shard
      (split_moment (view_of (g.D.Desk.seen c.args.desk.now) kept.stops)
      (outside_of (g.H.Hosts.started c.args.hosts.now) (g.H.Hosts.start_faults c.args.hosts.now) (g.H.Hosts.stop_faults c.args.hosts.now) (g.P.Pace.stops c.args.pace.now) (g.H.Hosts.reached c.args.hosts.now)))
      (split_moment (view_of (g.D.Desk.seen c.split.new.desk) c.split.new.trail.stops)
      (outside_of (g.H.Hosts.started c.split.new.hosts) (g.H.Hosts.start_faults c.split.new.hosts) (g.H.Hosts.stop_faults c.split.new.hosts) (g.P.Pace.stops c.split.new.pace) (g.H.Hosts.reached c.split.new.hosts)))
      c.split.result) c.clear.ensures c.split.ensures.split;
}
