-- One request is answered, its gate is passed, and its reply written.
use Rattle.std.proofs.Common.{◌+◌, ℕ, None, length, drop, sym, ap, ◌∙◌, subst}
use Rattle.sc_cores.specs.Cores.{outside_of}
use Rattle.sc_seen.specs.Seen.{Layout}
use Rattle.sc_seen.proofs.GoesOnLemmas.{SeesMore-by}
use Rattle.sc_collection.specs.Kept.{Kept, is_full}
use Rattle.sc_session.specs.Connection.{end_after}
use Rattle.sc_session.specs.Serving.{Exchanges, PassesGate, outcome_of}
use Rattle.sc_session.specs.Answering.{answer_of}
use Rattle.sc_session.proofs.OpenLemmas.{beside}
use Rattle.sc_session.proofs.ServeLemmas.{exchanged, gate_moment}
use Rattle.sc_session.proofs.connection.exchange.Goals as goal

pub pass_from-passed-requires-clause-fits : goal.pass_from-passed-requires-clause-fits
pass_from-passed-requires-clause-fits g c =
    g.met.G.Gate.fits_on c.args.gate.now c.args.desk.now c.answer-answer.new.desk c.requires.fits c.answer-answer.ensures.layout
    (SeesMore-by (g.D.Desk.layout c.args.desk.now) (g.D.Desk.seen c.args.desk.now) (g.D.Desk.seen c.answer-answer.new.desk) c.answer-answer.ensures.answers.trace.stops c.answer-answer.ensures.answers.extends)

pub returns-clause-exchange : goal.returns-clause-exchange
returns-clause-exchange g c =
    let gives = g.C.Clock.gives in
    let layout = g.D.Desk.layout c.args.desk.now in
    let request = c.args.request in
    let seen = g.D.Desk.seen c.answer-answer.new.desk in
    let old = beside (g.D.Desk.seen c.args.desk.now) c.args.clock.now (outside_of (g.H.Hosts.started c.args.hosts.now) (g.H.Hosts.start_faults c.args.hosts.now) (g.H.Hosts.stop_faults c.args.hosts.now) (g.P.Pace.stops c.args.pace.now) (g.H.Hosts.reached c.args.hosts.now)) c.args.trail.now None (g.W.Sink.written c.args.sink.now) 0 (g.W.Sink.faults c.args.sink.now) (g.G.Gate.state c.args.gate.now) in
    let kept : Kept = record { stops = c.answer-answer.new.trail.stops; requests = c.answer-answer.new.trail.requests + 1 } in
    let new = beside (g.D.Desk.seen c.pass_from-passed.new.desk) c.answer-answer.new.clock (outside_of (g.H.Hosts.started c.answer-answer.new.hosts) (g.H.Hosts.start_faults c.answer-answer.new.hosts) (g.H.Hosts.stop_faults c.answer-answer.new.hosts) (g.P.Pace.stops c.answer-answer.new.pace) (g.H.Hosts.reached c.answer-answer.new.hosts)) kept None (g.W.Sink.written c.respond_by.new.sink) 0 (g.W.Sink.faults c.respond_by.new.sink) (g.G.Gate.state c.pass_from-passed.new.gate) in
    let answer = answer_of c.answer-answer.result in
    let outcome = outcome_of c.pass_from-passed.result in
    let before = gate_moment seen (g.G.Gate.state c.args.gate.now) in
    let then = gate_moment (g.D.Desk.seen c.pass_from-passed.new.desk) (g.G.Gate.state c.pass_from-passed.new.gate) in
    let passes : PassesGate layout (drop (length c.args.trail.now.stops) c.answer-answer.new.trail.stops) before then outcome =
    subst (λ (n : ℕ). PassesGate layout (drop n c.answer-answer.new.trail.stops) before then outcome) c.len-from.ensures
    (subst (λ (l : Layout). PassesGate l (drop c.len-from.result c.answer-answer.new.trail.stops) before then outcome) c.answer-answer.ensures.layout c.pass_from-passed.ensures.passes) in
    subst (λ (k : Kept). Exchanges gives layout request old (beside (g.D.Desk.seen c.pass_from-passed.new.desk) c.answer-answer.new.clock (outside_of (g.H.Hosts.started c.answer-answer.new.hosts) (g.H.Hosts.start_faults c.answer-answer.new.hosts) (g.H.Hosts.stop_faults c.answer-answer.new.hosts) (g.P.Pace.stops c.answer-answer.new.pace) (g.H.Hosts.reached c.answer-answer.new.hosts)) k None (g.W.Sink.written c.respond_by.new.sink) 0 (g.W.Sink.faults c.respond_by.new.sink) (g.G.Gate.state c.pass_from-passed.new.gate)) c.respond_by.result) (sym c.count_request.ensures)
    (exchanged gives layout request old new seen answer outcome c.respond_by.result c.end_after-end.result c.answer-answer.ensures.answers
    passes
    (ap (λ n. n + 1) c.answer-answer.ensures.requests)
    (c.end_after-end.ensures ∙ ap (end_after answer outcome request.close) (c.is_full.ensures ∙ ap is_full c.count_request.ensures))
    c.respond_by.ensures.replies
    c.respond_by.ensures.write_faults)
