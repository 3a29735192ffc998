-- So far so many makers have their crews, which are out of the station.
use Rattle.std.proofs.Common.{◌≡◌, ◌≤◌, ◌++◌, length, true, None, vec_capacity}
use Rattle.sc_server.specs.Crews.{SetsBelow, SetsReportedBelow}
use Rattle.sc_demo.specs.Makers.{AreMakersEnlisted}
use Rattle.sc_demo.proofs.makers.enlist.Given as goal

abbrev pub invariant-loop-kit : goal.invariant-loop-kit
invariant-loop-kit g l = record {
  left : l.yielded ++ l.kit-iterator.rest.items ≡ l.fn.kits.items;
  count : length l.makers.items ≡ length l.yielded;
  at_most : length l.makers.items ≤ length l.fn.kits.items;
  room : vec_capacity l.makers ≡ vec_capacity l.fn.makers;
  enlisted : AreMakersEnlisted l.demo l.collection (g.T.Station.crews l.fn.station) l.makers.items;
  crews : SetsReportedBelow (length l.makers.items) None (g.T.Station.crews l.fn.station) (g.T.Station.crews l.station);
  out : SetsBelow (length l.makers.items) true (g.T.Station.out l.fn.station) (g.T.Station.out l.station);
  crews_back : g.T.Station.crews_back l.station ≡ g.T.Station.crews_back l.fn.station;
  faults : g.T.Station.faults l.station ≡ g.T.Station.faults l.fn.station;
  opened : g.T.Station.opened l.station ≡ g.T.Station.opened l.fn.station;
}
