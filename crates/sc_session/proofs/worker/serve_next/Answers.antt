-- A link that came was served and taken back; or none came, and all is as it was.
use Rattle.std.proofs.Common.{◌≡◌, ◌+◌, List, [], ◌∷◌, Option, Some, None, Result, Ok, refl, sym, ap, ◌∙◌, subst, arith}
use Rattle.std.specs.Prelude.{IfSome}
use Rattle.sc_io.specs.declared.fault.Failed.{Failed}
use Rattle.sc_cores.specs.Cores.{outside_of}
use Rattle.sc_session.specs.Listening.{GivesFirst, links_given}
use Rattle.sc_session.specs.Working.{ServedLink}
use Rattle.sc_session.specs.declared.listener.Link.{Link}
use Rattle.sc_session.specs.declared.listener.Taken.{Taken}
use Rattle.sc_session.specs.declared.worker.WorkEnd.TheVariants as ends
use Rattle.sc_session.proofs.WorkLemmas.{work_state, setting, TakesBack, served_from, worked_one, worked_none, comes_none, comes_same}
use Rattle.sc_session.proofs.worker.serve_next.Goals as goal

pub returns-in-Ok-Some-clause-worked : goal.returns-in-Ok-Some-clause-worked
returns-in-Ok-Some-clause-worked g c =
    let gives = g.C.Clock.gives in
    let told = setting (g.D.Desk.layout c.args.desk.now) g.L.S.Source.rest g.L.S.Source.faults g.L.W.Sink.written g.L.W.Sink.faults in
    let before = work_state (g.D.Desk.seen c.args.desk.now) c.args.clock.now (outside_of (g.H.Hosts.started c.args.hosts.now) (g.H.Hosts.start_faults c.args.hosts.now) (g.H.Hosts.stop_faults c.args.hosts.now) (g.P.Pace.stops c.args.pace.now) (g.H.Hosts.reached c.args.hosts.now)) (g.G.Gate.state c.args.gate.now) (g.L.Listener.coming c.args.listener.now) (g.L.Listener.taken c.args.listener.now) (g.L.Listener.faults c.args.listener.now) (g.L.Listener.out c.args.listener.now) in
    let after = work_state (g.D.Desk.seen c.serve_with.new.desk) c.serve_with.new.clock (outside_of (g.H.Hosts.started c.serve_with.new.hosts) (g.H.Hosts.start_faults c.serve_with.new.hosts) (g.H.Hosts.stop_faults c.serve_with.new.hosts) (g.P.Pace.stops c.serve_with.new.pace) (g.H.Hosts.reached c.serve_with.new.hosts)) (g.G.Gate.state c.serve_with.new.gate) (g.L.Listener.coming c.close.new.self) (g.L.Listener.taken c.close.new.self) (g.L.Listener.faults c.close.new.self) (g.L.Listener.out c.close.new.self) in
    let is = c.in-Ok-Some.is ∙ ap Ok c.in-Ok-Some.field-0-is in
    let x : ServedLink g.row.C.Denot g.row.L-S.Denot g.row.L-W.Denot = record {
      given = c.in-Ok-Some.link;
      taken = record { link = record { source = c.serve_with.new.source; sink = c.serve_with.new.sink }; trail = c.serve_with.new.trail };
      end = c.serve_with.result;
      after = after.around;
    } in
    let given : IfSome before.coming (λ all. GivesFirst (Some c.in-Ok-Some.link) all (g.L.Listener.coming c.accept.new.self)) =
    rw c.in-Ok-Some.field-0-is at c.in-Ok-Some.ensures.given in
    let more : g.L.Listener.out c.accept.new.self ≡ g.L.Listener.out c.args.listener.now + 1 =
    subst (λ (r : Result (Option (Link g.row.L-S.Denot g.row.L-W.Denot)) Failed). g.L.Listener.out c.accept.new.self ≡ g.L.Listener.out c.args.listener.now + links_given r) is c.accept.ensures.out in
    let less : g.L.Listener.out c.close.new.self + 1 ≡ g.L.Listener.out c.accept.new.self = c.close.ensures.out in
    worked_one gives told before after x
    (served_from gives told before.around x c.args.trail.now c.requires.trail c.serve_with.ensures.connection)
    refl
    (subst (λ (o : Option (List (Link g.row.L-S.Denot g.row.L-W.Denot))). IfSome before.coming (λ all. GivesFirst (Some c.in-Ok-Some.link) all o)) (sym c.close.ensures.coming) given)
    (subst (λ (o : Option (List (Taken g.row.L-S.Denot g.row.L-W.Denot))). TakesBack o after.taken (x.taken ∷ [])) c.accept.ensures.taken c.close.ensures.taken)
    (omega (arith, more, less))
    (c.close.ensures.faults ∙ c.in-Ok-Some.ensures.steady)

pub returns-in-Ok-None-clause-worked : goal.returns-in-Ok-None-clause-worked
returns-in-Ok-None-clause-worked g c =
    let gives = g.C.Clock.gives in
    let told = setting (g.D.Desk.layout c.args.desk.now) g.L.S.Source.rest g.L.S.Source.faults g.L.W.Sink.written g.L.W.Sink.faults in
    let before = work_state (g.D.Desk.seen c.args.desk.now) c.args.clock.now (outside_of (g.H.Hosts.started c.args.hosts.now) (g.H.Hosts.start_faults c.args.hosts.now) (g.H.Hosts.stop_faults c.args.hosts.now) (g.P.Pace.stops c.args.pace.now) (g.H.Hosts.reached c.args.hosts.now)) (g.G.Gate.state c.args.gate.now) (g.L.Listener.coming c.args.listener.now) (g.L.Listener.taken c.args.listener.now) (g.L.Listener.faults c.args.listener.now) (g.L.Listener.out c.args.listener.now) in
    let after = work_state (g.D.Desk.seen c.args.desk.now) c.args.clock.now (outside_of (g.H.Hosts.started c.args.hosts.now) (g.H.Hosts.start_faults c.args.hosts.now) (g.H.Hosts.stop_faults c.args.hosts.now) (g.P.Pace.stops c.args.pace.now) (g.H.Hosts.reached c.args.hosts.now)) (g.G.Gate.state c.args.gate.now) (g.L.Listener.coming c.accept.new.self) (g.L.Listener.taken c.accept.new.self) (g.L.Listener.faults c.accept.new.self) (g.L.Listener.out c.accept.new.self) in
    let is = c.in-Ok-None.is ∙ ap Ok c.in-Ok-None.field-0-is in
    let given : IfSome before.coming (λ all. GivesFirst None all after.coming) =
    rw c.in-Ok-None.field-0-is at c.in-Ok-None.ensures.given in
    let none = comes_none before.coming after.coming given in
    let none_given : after.out ≡ before.out + 0 =
    subst (λ (r : Result (Option (Link g.row.L-S.Denot g.row.L-W.Denot)) Failed). after.out ≡ before.out + links_given r) is c.accept.ensures.out in
    worked_none gives told 1 before after ends.NoMore refl none.0 c.accept.ensures.taken
    (omega (arith, none_given))
    (record {
      enough = (λ same. absurd (cc), λ same. absurd (cc));
      at_most = omega arith;
      no_more = λ same. none.1;
      faults = record { rises = λ same. absurd (cc); stays = λ not. c.in-Ok-None.ensures.steady };
    })

pub returns-in-Err-clause-worked : goal.returns-in-Err-clause-worked
returns-in-Err-clause-worked g c =
    let gives = g.C.Clock.gives in
    let told = setting (g.D.Desk.layout c.args.desk.now) g.L.S.Source.rest g.L.S.Source.faults g.L.W.Sink.written g.L.W.Sink.faults in
    let before = work_state (g.D.Desk.seen c.args.desk.now) c.args.clock.now (outside_of (g.H.Hosts.started c.args.hosts.now) (g.H.Hosts.start_faults c.args.hosts.now) (g.H.Hosts.stop_faults c.args.hosts.now) (g.P.Pace.stops c.args.pace.now) (g.H.Hosts.reached c.args.hosts.now)) (g.G.Gate.state c.args.gate.now) (g.L.Listener.coming c.args.listener.now) (g.L.Listener.taken c.args.listener.now) (g.L.Listener.faults c.args.listener.now) (g.L.Listener.out c.args.listener.now) in
    let after = work_state (g.D.Desk.seen c.args.desk.now) c.args.clock.now (outside_of (g.H.Hosts.started c.args.hosts.now) (g.H.Hosts.start_faults c.args.hosts.now) (g.H.Hosts.stop_faults c.args.hosts.now) (g.P.Pace.stops c.args.pace.now) (g.H.Hosts.reached c.args.hosts.now)) (g.G.Gate.state c.args.gate.now) (g.L.Listener.coming c.accept.new.self) (g.L.Listener.taken c.accept.new.self) (g.L.Listener.faults c.accept.new.self) (g.L.Listener.out c.accept.new.self) in
    let none_given : after.out ≡ before.out + 0 =
    subst (λ (r : Result (Option (Link g.row.L-S.Denot g.row.L-W.Denot)) Failed). after.out ≡ before.out + links_given r) c.in-Err.is c.accept.ensures.out in
    worked_none gives told 1 before after ends.ListenerFault refl (comes_same before.coming after.coming c.in-Err.ensures.failed) c.accept.ensures.taken
    (omega (arith, none_given))
    (record {
      enough = (λ same. absurd (cc), λ same. absurd (cc));
      at_most = omega arith;
      no_more = λ same. absurd (cc);
      faults = record { rises = λ same. c.in-Err.ensures.cause; stays = λ not. absurd (not refl) };
    })
