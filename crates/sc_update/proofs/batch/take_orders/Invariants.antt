-- The first orders were answered.
use Rattle.std.proofs.Common.{◌≡◌, ◌+◌, ◌≤◌, true, length, drop}
use Rattle.sc_collection.specs.Resting.{LeavesAtRest}
use Rattle.sc_update.specs.Moments.{KeepsCores, moment_at}
use Rattle.sc_update.specs.Steps.{HasRoomToShow}
use Rattle.sc_update.proofs.BatchLemmas.{SoFar, going_on}
use Rattle.sc_update.proofs.batch.take_orders.Given as goal

abbrev pub invariant-loop-at : goal.invariant-loop-at
invariant-loop-at g l = record {
  far : SoFar g.C.Clock.gives (g.D.Desk.layout l.fn.desk) l.batch (moment_at g.D.Desk g.H.Hosts l.fn.desk l.fn.clock l.fn.hosts l.fn.trail)
      (going_on (moment_at g.D.Desk g.H.Hosts l.desk l.clock l.hosts l.trail) l.shown) l.at;
  leaves : LeavesAtRest g.D.Desk l.fn.desk l.fn.trail l.desk l.trail;
  cores : KeepsCores g.H.Hosts l.fn.hosts l.hosts;
  stops : length l.trail.stops ≤ length l.fn.trail.stops + (l.at + l.at);
  room : l.batch.flags.versions ≡ true → HasRoomToShow l.shown (drop l.at l.orders);
}
