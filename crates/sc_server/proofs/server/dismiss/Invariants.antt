-- So far the crews of the last workers are back, and their passes were joined.
use Rattle.std.proofs.Common.{◌≡◌, vec_len}
use Rattle.sc_server.proofs.DismissLemmas.{IsHalfway}
use Rattle.sc_server.proofs.server.dismiss.Given as goal

abbrev pub invariant-loop-worker : goal.invariant-loop-worker
invariant-loop-worker g l = record {
  halfway : IsHalfway l.collection l.passes l.fn.workers.items l.workers.items (g.T.Station.crews_back l.fn.station)
      (g.T.Station.crews_back l.station) (g.T.Station.out l.fn.station) (g.T.Station.out l.station);
  crews : g.T.Station.crews l.station ≡ g.T.Station.crews l.fn.station;
  faults : g.T.Station.faults l.station ≡ g.T.Station.faults l.fn.station;
  opened : g.T.Station.opened l.station ≡ g.T.Station.opened l.fn.station;
}

abbrev pub decreases-loop-worker : goal.decreases-loop-worker
decreases-loop-worker g l = vec_len l.workers
