-- So far the crews of the last makers are back, and their passes were joined.
use Rattle.std.proofs.Common.{◌≡◌, vec_len}
use Rattle.sc_demo.proofs.CrewLemmas.{IsHalfway}
use Rattle.sc_demo.proofs.makers.dismiss.Given as goal

abbrev pub invariant-loop-maker : goal.invariant-loop-maker
invariant-loop-maker g l = record {
  halfway : IsHalfway l.collection l.passes l.fn.makers.items l.makers.items (g.T.Station.crews_back l.fn.station)
      (g.T.Station.crews_back l.station) (g.T.Station.out l.fn.station) (g.T.Station.out l.station);
  crews : g.T.Station.crews l.station ≡ g.T.Station.crews l.fn.station;
  faults : g.T.Station.faults l.station ≡ g.T.Station.faults l.fn.station;
  opened : g.T.Station.opened l.station ≡ g.T.Station.opened l.fn.station;
}

abbrev pub decreases-loop-maker : goal.decreases-loop-maker
decreases-loop-maker g l = vec_len l.makers
