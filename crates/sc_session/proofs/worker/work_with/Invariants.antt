-- As many links were served as were counted, and the trail is empty.
use Rattle.std.proofs.Common.{◌≡◌}
use Rattle.sc_cores.specs.Cores.{outside_of}
use Rattle.sc_collection.specs.Desks.{nothing_out}
use Rattle.sc_session.specs.Listening.{nothing_kept}
use Rattle.sc_session.specs.Working.{IsWorked}
use Rattle.sc_session.specs.declared.worker.WorkEnd.TheVariants as ends
use Rattle.sc_session.proofs.worker.work_with.Given as goal

-- as many links were served as were counted, and the trail is empty
abbrev pub invariant-loop : goal.invariant-loop
invariant-loop g l = record {
  worked : IsWorked g.C.Clock.gives
      (record { layout = g.D.Desk.layout l.fn.desk; rest = g.L.S.Source.rest; read_faults = g.L.S.Source.faults; written = g.L.W.Sink.written; write_faults = g.L.W.Sink.faults })
      l.counter
      (record {
        around = record { seen = g.D.Desk.seen l.fn.desk; clock = l.fn.clock; outside = outside_of (g.H.Hosts.started l.fn.hosts) (g.H.Hosts.start_faults l.fn.hosts) (g.H.Hosts.stop_faults l.fn.hosts) (g.P.Pace.stops l.fn.pace) (g.H.Hosts.reached l.fn.hosts); gate = g.G.Gate.state l.fn.gate };
        coming = g.L.Listener.coming l.fn.listener;
        taken = g.L.Listener.taken l.fn.listener;
        faults = g.L.Listener.faults l.fn.listener;
        out = g.L.Listener.out l.fn.listener;
      })
      (record {
        around = record { seen = g.D.Desk.seen l.desk; clock = l.clock; outside = outside_of (g.H.Hosts.started l.hosts) (g.H.Hosts.start_faults l.hosts) (g.H.Hosts.stop_faults l.hosts) (g.P.Pace.stops l.pace) (g.H.Hosts.reached l.hosts); gate = g.G.Gate.state l.gate };
        coming = g.L.Listener.coming l.listener;
        taken = g.L.Listener.taken l.listener;
        faults = g.L.Listener.faults l.listener;
        out = g.L.Listener.out l.listener;
      })
      ends.Enough;
  trail : l.trail ≡ nothing_kept;
  layout : g.D.Desk.layout l.desk ≡ g.D.Desk.layout l.fn.desk;
  nothing_out : g.D.Desk.out l.desk ≡ nothing_out;
  fits : g.G.Gate.fits l.gate l.desk;
  since : g.G.Gate.since l.fn.gate l.gate;
}
