-- The first ids were read.
use Rattle.std.proofs.Common.{◌≡◌, ◌+◌, ◌≤◌, length}
use Rattle.std.specs.Prelude.{vec_capacity}
use Rattle.sc_collection.specs.Resting.{looked_at, LeavesAtRest}
use Rattle.sc_get.proofs.ManyLemmas.{SoFar}
use Rattle.sc_get.proofs.many.get_many.Given as goal

abbrev pub invariant-loop-id : goal.invariant-loop-id
invariant-loop-id g l = record {
  far : SoFar (g.D.Desk.layout l.fn.desk) (looked_at g.D.Desk l.fn.desk l.fn.trail) (looked_at g.D.Desk l.desk l.trail) l.ids l.id-index l.found.items;
  leaves : LeavesAtRest g.D.Desk l.fn.desk l.fn.trail l.desk l.trail;
  stops : length l.trail.stops ≡ length l.fn.trail.stops + l.id-index;
  found : length l.found.items ≤ l.id-index;
  room : length l.ids ≤ vec_capacity l.found;
}
