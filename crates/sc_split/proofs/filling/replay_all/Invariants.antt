-- The core replays.
use Rattle.sc_split.specs.Leaving.{known, LeavesWith}
use Rattle.std.proofs.Common.{◌≡◌, []}
use Rattle.sc_ulog.specs.declared.mode.Mode.TheVariants.{Replaying}
use Rattle.sc_split.specs.Buckets.{KeeperHeld}
use Rattle.sc_split.proofs.ReplayLemmas.{HasPutMode}
use Rattle.sc_split.proofs.MeasureLemmas.{writes_left_in}
use Rattle.sc_split.proofs.filling.replay_all.Given as goal

-- pieces were replayed, and none was the last
abbrev pub invariant-loop-core : goal.invariant-loop-core
invariant-loop-core g l = record {
  leaves : LeavesWith g.D.Desk l.fn.desk l.desk l.keepers;
  held : KeeperHeld l.b (known g.D.Desk l.fn.desk l.fn.keepers) (known g.D.Desk l.desk l.keepers) [];
  replays : HasPutMode ((g.D.Desk.keeping l.fn.desk l.fn.keepers).part l.b) l.core Replaying ((g.D.Desk.keeping l.desk l.keepers).part l.b);
  steady : g.P.Pace.stops l.pace ≡ g.P.Pace.stops l.fn.pace;
}

-- how many writes are still to be replayed
abbrev pub decreases-loop-core : goal.decreases-loop-core
decreases-loop-core g l = writes_left_in ((g.D.Desk.keeping l.desk l.keepers).part l.b)
