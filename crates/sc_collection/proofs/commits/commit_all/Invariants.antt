-- The first buckets were committed.
use Rattle.std.proofs.Common.{◌≡◌, ◌+◌, length}
use Rattle.sc_seen.specs.Moments.{view_of}
use Rattle.sc_collection.specs.Desks.{IsDeskAtRest}
use Rattle.sc_collection.specs.Committing.{CommitsAll}
use Rattle.sc_collection.proofs.commits.commit_all.Given as goal

abbrev pub invariant-loop-b : goal.invariant-loop-b
invariant-loop-b g l = record {
  committed : CommitsAll (g.D.Desk.layout l.fn.desk) l.b (view_of (g.D.Desk.seen l.fn.desk) l.fn.trail.stops) (view_of (g.D.Desk.seen l.desk) l.trail.stops) l.worst;
  layout : g.D.Desk.layout l.desk ≡ g.D.Desk.layout l.fn.desk;
  rest : IsDeskAtRest (g.D.Desk.layout l.desk) (g.D.Desk.out l.desk) (g.D.Desk.seen l.desk);
  stops : length l.trail.stops ≡ length l.fn.trail.stops + l.b;
  requests : l.trail.requests ≡ l.fn.trail.requests;
}
