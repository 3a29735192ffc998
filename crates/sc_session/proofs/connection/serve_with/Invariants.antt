-- The connection is open.
use Rattle.std.proofs.Common.{◌≡◌, ◌-◌}
use Rattle.sc_cores.specs.Cores.{outside_of}
use Rattle.sc_collection.specs.Desks.{nothing_out}
use Rattle.sc_seen.specs.Seen.{AreLegal}
use Rattle.sc_session.proofs.OpenLemmas.{IsOpen, beside}
use Rattle.sc_session.proofs.connection.serve_with.Given as goal

-- the connection is open
abbrev pub invariant-loop-request : goal.invariant-loop-request
invariant-loop-request g l = record {
  is_open : IsOpen g.C.Clock.gives (g.D.Desk.layout l.fn.desk)
      (beside (g.D.Desk.seen l.fn.desk) l.fn.clock (outside_of (g.H.Hosts.started l.fn.hosts) (g.H.Hosts.start_faults l.fn.hosts) (g.H.Hosts.stop_faults l.fn.hosts) (g.P.Pace.stops l.fn.pace) (g.H.Hosts.reached l.fn.hosts)) l.fn.trail (g.S.Source.rest l.fn.source) (g.W.Sink.written l.fn.sink) (g.S.Source.faults l.fn.source) (g.W.Sink.faults l.fn.sink) (g.G.Gate.state l.fn.gate))
      (beside (g.D.Desk.seen l.desk) l.clock (outside_of (g.H.Hosts.started l.hosts) (g.H.Hosts.start_faults l.hosts) (g.H.Hosts.stop_faults l.hosts) (g.P.Pace.stops l.pace) (g.H.Hosts.reached l.hosts)) l.trail (g.S.Source.rest l.source) (g.W.Sink.written l.sink) (g.S.Source.faults l.source) (g.W.Sink.faults l.sink) (g.G.Gate.state l.gate)) l.reader;
  legal : AreLegal (g.D.Desk.layout l.fn.desk) (g.D.Desk.seen l.desk);
  layout : g.D.Desk.layout l.desk ≡ g.D.Desk.layout l.fn.desk;
  nothing_out : g.D.Desk.out l.desk ≡ nothing_out;
  fits : g.G.Gate.fits l.gate l.desk;
  since : g.G.Gate.since l.fn.gate l.gate;
}

-- how many requests more it may answer
abbrev pub decreases-loop-request : goal.decreases-loop-request
decreases-loop-request g l = 1000 - l.trail.requests
