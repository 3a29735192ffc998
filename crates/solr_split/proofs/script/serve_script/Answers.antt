-- A script that names a timestamp is served with a clock that stands still.
use Rattle.std.proofs.Common.{refl}
use Rattle.sc_io.specs.declared.memory.Fixed.{Fixed}
use Rattle.sc_cores.specs.Cores.{outside_of}
use Rattle.sc_session.specs.States.{ConnectionState}
use Rattle.solr_split.specs.Running.{state_of}
use Rattle.solr_split.proofs.RunLemmas.{served_at}
use Rattle.solr_split.proofs.script.serve_script.Goals as goal

pub returns-in-Some-clause-served : goal.returns-in-Some-clause-served
returns-in-Some-clause-served g c =
    let before : ConnectionState Fixed = state_of (g.D.Desk.seen c.args.desk.now) c.args.trail.now (record {
      clock = record { moment = c.in-Some.moment };
      outside = outside_of (g.H.Hosts.started c.args.hosts.now) (g.H.Hosts.start_faults c.args.hosts.now) (g.H.Hosts.stop_faults c.args.hosts.now) (g.P.Pace.stops c.args.pace.now) (g.H.Hosts.reached c.args.hosts.now);
      unread = g.S.Source.rest c.args.source.now;
      written = g.W.Sink.written c.args.sink.now;
      read_faults = g.S.Source.faults c.args.source.now;
      write_faults = g.W.Sink.faults c.args.sink.now;
    }) in
    let after : ConnectionState Fixed = state_of (g.D.Desk.seen c.serve-in-Some.new.desk) c.serve-in-Some.new.trail (record {
      clock = c.serve-in-Some.new.clock;
      outside = outside_of (g.H.Hosts.started c.serve-in-Some.new.hosts) (g.H.Hosts.start_faults c.serve-in-Some.new.hosts) (g.H.Hosts.stop_faults c.serve-in-Some.new.hosts) (g.P.Pace.stops c.serve-in-Some.new.pace) (g.H.Hosts.reached c.serve-in-Some.new.hosts);
      unread = g.S.Source.rest c.serve-in-Some.new.source;
      written = g.W.Sink.written c.serve-in-Some.new.sink;
      read_faults = g.S.Source.faults c.serve-in-Some.new.source;
      write_faults = g.W.Sink.faults c.serve-in-Some.new.sink;
    }) in
    rw c.in-Some.is (served_at g.C.Clock.gives c.in-Some.moment (g.D.Desk.layout c.args.desk.now) before after c.args.clock.now c.serve-in-Some.result refl c.serve-in-Some.ensures.connection)
