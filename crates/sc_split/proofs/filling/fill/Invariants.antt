-- The cores of a bucket are fed, and then they replay.
use Rattle.std.proofs.Common.{◌≡◌, [], drop}
use Rattle.sc_cluster.specs.declared.plan.SplitPlan.{SplitPlan}
use Rattle.sc_keeper.specs.declared.part.Part.{Part}
use Rattle.sc_split.specs.Leaving.{known, LeavesWith}
use Rattle.sc_split.specs.Buckets.{fed_names, IsAllSeen, KeeperHeld, KeepsCores, KeepsSeats, AreToFill, IsUnderway}
use Rattle.sc_split.proofs.filling.fill.Given as goal

-- the first ones are fed
abbrev pub invariant-loop-core : goal.invariant-loop-core
invariant-loop-core g l = record {
  leaves : LeavesWith g.D.Desk l.fn.desk l.desk l.keepers;
  seen : IsAllSeen l.b (known g.D.Desk l.desk l.keepers);
  held : KeeperHeld l.b (known g.D.Desk l.fn.desk l.fn.keepers) (known g.D.Desk l.desk l.keepers) [];
  kept : KeepsCores ((g.D.Desk.keeping l.fn.desk l.fn.keepers).part l.b) ((g.D.Desk.keeping l.desk l.keepers).part l.b);
  fed : fed_names ((g.D.Desk.keeping l.desk l.keepers).part l.b) ≡ drop l.core-index l.cores;
  steady : g.P.Pace.stops l.pace ≡ g.P.Pace.stops l.fn.pace;
}

-- none is fed, and the first ones are filled
abbrev pub invariant-loop-core-2 : goal.invariant-loop-core-2
invariant-loop-core-2 g l = record {
  leaves : LeavesWith g.D.Desk l.fn.desk l.desk l.keepers;
  seen : IsAllSeen l.b (known g.D.Desk l.desk l.keepers);
  held : KeeperHeld l.b (known g.D.Desk l.fn.desk l.fn.keepers) (known g.D.Desk l.desk l.keepers) [];
  seats : KeepsSeats ((g.D.Desk.keeping l.fn.desk l.fn.keepers).part l.b) ((g.D.Desk.keeping l.desk l.keepers).part l.b);
  unfed : ((g.D.Desk.keeping l.desk l.keepers).part l.b).feeds ≡ [];
  to_fill : AreToFill ((g.D.Desk.keeping l.desk l.keepers).part l.b) (drop l.core-index l.cores);
  underway : (base : Part) (plan : SplitPlan) → IsUnderway base plan ((g.D.Desk.keeping l.fn.desk l.fn.keepers).part l.b)
      → IsUnderway base plan ((g.D.Desk.keeping l.desk l.keepers).part l.b);
  steady : g.P.Pace.stops l.pace ≡ g.P.Pace.stops l.fn.pace;
}
