-- Each turn serves one link more, or ends.
use Rattle.std.proofs.Common.{◌≡◌, ◌+◌, refl, ◌∙◌, subst, arith}
use Rattle.sc_cores.specs.Cores.{outside_of}
use Rattle.sc_seen.specs.Seen.{Layout}
use Rattle.sc_session.specs.Working.{IsWorked}
use Rattle.sc_session.specs.declared.worker.WorkEnd.{WorkEnd}
use Rattle.sc_session.specs.declared.worker.WorkEnd.TheVariants as ends
use Rattle.sc_session.proofs.WorkLemmas.{work_state, setting, worked_none, worked_then, comes_same}
use Rattle.sc_session.proofs.worker.work_with.Goals as goal

pub loop-init : goal.loop-init
loop-init g c =
    let before = work_state (g.D.Desk.seen c.args.desk.now) c.args.clock.now (outside_of (g.H.Hosts.started c.args.hosts.now) (g.H.Hosts.start_faults c.args.hosts.now) (g.H.Hosts.stop_faults c.args.hosts.now) (g.P.Pace.stops c.args.pace.now) (g.H.Hosts.reached c.args.hosts.now)) (g.G.Gate.state c.args.gate.now) (g.L.Listener.coming c.args.listener.now) (g.L.Listener.taken c.args.listener.now) (g.L.Listener.faults c.args.listener.now) (g.L.Listener.out c.args.listener.now) in
    record {
      worked = worked_none g.C.Clock.gives (setting (g.D.Desk.layout c.args.desk.now) g.L.S.Source.rest g.L.S.Source.faults g.L.W.Sink.written g.L.W.Sink.faults) 0 before before ends.Enough refl (comes_same before.coming before.coming refl) refl refl
          (record {
            enough = (λ same. refl, λ same. refl);
            at_most = omega arith;
            no_more = λ same. absurd (cc);
            faults = record { rises = λ same. absurd (cc); stays = λ not. refl };
          });
      trail = c.clear.ensures;
      layout = refl;
      nothing_out = c.requires.nothing_out;
      fits = c.requires.fits;
      since = g.met.G.Gate.since_same c.args.gate.now;
    }

pub returns-in_default : goal.returns-in_default
returns-in_default g c =
    let gives = g.C.Clock.gives in
    let told = setting (g.D.Desk.layout c.args.desk.now) g.L.S.Source.rest g.L.S.Source.faults g.L.W.Sink.written g.L.W.Sink.faults in
    let before = work_state (g.D.Desk.seen c.args.desk.now) c.args.clock.now (outside_of (g.H.Hosts.started c.args.hosts.now) (g.H.Hosts.start_faults c.args.hosts.now) (g.H.Hosts.stop_faults c.args.hosts.now) (g.P.Pace.stops c.args.pace.now) (g.H.Hosts.reached c.args.hosts.now)) (g.G.Gate.state c.args.gate.now) (g.L.Listener.coming c.args.listener.now) (g.L.Listener.taken c.args.listener.now) (g.L.Listener.faults c.args.listener.now) (g.L.Listener.out c.args.listener.now) in
    let now = work_state (g.D.Desk.seen c.loop.desk) c.loop.clock (outside_of (g.H.Hosts.started c.loop.hosts) (g.H.Hosts.start_faults c.loop.hosts) (g.H.Hosts.stop_faults c.loop.hosts) (g.P.Pace.stops c.loop.pace) (g.H.Hosts.reached c.loop.hosts)) (g.G.Gate.state c.loop.gate) (g.L.Listener.coming c.loop.listener) (g.L.Listener.taken c.loop.listener) (g.L.Listener.faults c.loop.listener) (g.L.Listener.out c.loop.listener) in
    let then = work_state (g.D.Desk.seen c.serve_next.new.desk) c.serve_next.new.clock (outside_of (g.H.Hosts.started c.serve_next.new.hosts) (g.H.Hosts.start_faults c.serve_next.new.hosts) (g.H.Hosts.stop_faults c.serve_next.new.hosts) (g.P.Pace.stops c.serve_next.new.pace) (g.H.Hosts.reached c.serve_next.new.hosts)) (g.G.Gate.state c.serve_next.new.gate) (g.L.Listener.coming c.serve_next.new.listener) (g.L.Listener.taken c.serve_next.new.listener) (g.L.Listener.faults c.serve_next.new.listener) (g.L.Listener.out c.serve_next.new.listener) in
    let one = subst (λ (n : Layout). IsWorked gives (setting n g.L.S.Source.rest g.L.S.Source.faults g.L.W.Sink.written g.L.W.Sink.faults) 1 now then c.serve_next.result) c.loop.invariant.layout c.serve_next.ensures.worked in
    let other : c.serve_next.result ≡ ends.Enough → ⊥ = c.in_default.not-Enough in
    record {
      worked = worked_then gives told c.loop.counter c.args.most before now then c.serve_next.result c.loop-test.true (λ same. absurd (other same)) c.loop.invariant.worked one;
      trail = c.serve_next.ensures.trail;
      layout = c.serve_next.ensures.layout ∙ c.loop.invariant.layout;
      nothing_out = c.serve_next.ensures.nothing_out;
      fits = c.serve_next.ensures.fits;
      since = g.met.G.Gate.since_then c.args.gate.now c.loop.gate c.serve_next.new.gate c.loop.invariant.since c.serve_next.ensures.since;
    }

pub loop-preserved : goal.loop-preserved
loop-preserved g c =
    let gives = g.C.Clock.gives in
    let told = setting (g.D.Desk.layout c.args.desk.now) g.L.S.Source.rest g.L.S.Source.faults g.L.W.Sink.written g.L.W.Sink.faults in
    let before = work_state (g.D.Desk.seen c.args.desk.now) c.args.clock.now (outside_of (g.H.Hosts.started c.args.hosts.now) (g.H.Hosts.start_faults c.args.hosts.now) (g.H.Hosts.stop_faults c.args.hosts.now) (g.P.Pace.stops c.args.pace.now) (g.H.Hosts.reached c.args.hosts.now)) (g.G.Gate.state c.args.gate.now) (g.L.Listener.coming c.args.listener.now) (g.L.Listener.taken c.args.listener.now) (g.L.Listener.faults c.args.listener.now) (g.L.Listener.out c.args.listener.now) in
    let now = work_state (g.D.Desk.seen c.loop.desk) c.loop.clock (outside_of (g.H.Hosts.started c.loop.hosts) (g.H.Hosts.start_faults c.loop.hosts) (g.H.Hosts.stop_faults c.loop.hosts) (g.P.Pace.stops c.loop.pace) (g.H.Hosts.reached c.loop.hosts)) (g.G.Gate.state c.loop.gate) (g.L.Listener.coming c.loop.listener) (g.L.Listener.taken c.loop.listener) (g.L.Listener.faults c.loop.listener) (g.L.Listener.out c.loop.listener) in
    let then = work_state (g.D.Desk.seen c.serve_next.new.desk) c.serve_next.new.clock (outside_of (g.H.Hosts.started c.serve_next.new.hosts) (g.H.Hosts.start_faults c.serve_next.new.hosts) (g.H.Hosts.stop_faults c.serve_next.new.hosts) (g.P.Pace.stops c.serve_next.new.pace) (g.H.Hosts.reached c.serve_next.new.hosts)) (g.G.Gate.state c.serve_next.new.gate) (g.L.Listener.coming c.serve_next.new.listener) (g.L.Listener.taken c.serve_next.new.listener) (g.L.Listener.faults c.serve_next.new.listener) (g.L.Listener.out c.serve_next.new.listener) in
    let one = subst (λ (n : Layout). IsWorked gives (setting n g.L.S.Source.rest g.L.S.Source.faults g.L.W.Sink.written g.L.W.Sink.faults) 1 now then c.serve_next.result) c.loop.invariant.layout c.serve_next.ensures.worked in
    let enough = subst (λ (end : WorkEnd). IsWorked gives told 1 now then end) c.in-Enough.is one in
    record {
      worked = worked_then gives told c.loop.counter (c.loop.counter + 1) before now then ends.Enough (omega arith) (λ same. refl) c.loop.invariant.worked enough;
      trail = c.serve_next.ensures.trail;
      layout = c.serve_next.ensures.layout ∙ c.loop.invariant.layout;
      nothing_out = c.serve_next.ensures.nothing_out;
      fits = c.serve_next.ensures.fits;
      since = g.met.G.Gate.since_then c.args.gate.now c.loop.gate c.serve_next.new.gate c.loop.invariant.since c.serve_next.ensures.since;
    }
