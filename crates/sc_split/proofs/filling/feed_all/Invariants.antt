-- The core is being fed.
use Rattle.sc_split.specs.Leaving.{known, LeavesWith}
use Rattle.std.proofs.Common.{◌≡◌, []}
use Rattle.sc_split.specs.Buckets.{fed_names, KeeperHeld, KeepsCores}
use Rattle.sc_split.proofs.MeasureLemmas.{rows_left_in}
use Rattle.sc_split.proofs.filling.feed_all.Given as goal

-- pieces were fed, and none was the last
abbrev pub invariant-loop-core : goal.invariant-loop-core
invariant-loop-core g l = record {
  leaves : LeavesWith g.D.Desk l.fn.desk l.desk l.keepers;
  held : KeeperHeld l.b (known g.D.Desk l.fn.desk l.fn.keepers) (known g.D.Desk l.desk l.keepers) [];
  kept : KeepsCores ((g.D.Desk.keeping l.fn.desk l.fn.keepers).part l.b) ((g.D.Desk.keeping l.desk l.keepers).part l.b);
  fed : fed_names ((g.D.Desk.keeping l.desk l.keepers).part l.b) ≡ fed_names ((g.D.Desk.keeping l.fn.desk l.fn.keepers).part l.b);
  steady : g.P.Pace.stops l.pace ≡ g.P.Pace.stops l.fn.pace;
}

-- how many rows are still to be looked at
abbrev pub decreases-loop-core : goal.decreases-loop-core
decreases-loop-core g l = rows_left_in ((g.D.Desk.keeping l.desk l.keepers).part l.b)
