-- The connection stays open from request to request, and its end keeps the promise.
use Rattle.std.proofs.Common.{◌≡◌, [], Some, None, Err, refl, sym, ap, ◌∙◌, subst}
use Rattle.sc_router.specs.Route.{IsBucketCount}
use Rattle.sc_http.specs.declared.end.MessageEnd.TheVariants as reads
use Rattle.sc_seen.specs.Seen.{Layout, AreLegal}
use Rattle.sc_cores.specs.Cores.{outside_of}
use Rattle.sc_collection.specs.Kept.{Kept}
use Rattle.sc_session.specs.Connection.{out_of_memory}
use Rattle.sc_session.specs.Ends.{last_without_request}
use Rattle.sc_session.specs.Serving.{Exchanges}
use Rattle.sc_session.proofs.OpenLemmas.{IsOpen, beside, without_source, open_first}
use Rattle.sc_session.proofs.ServeLemmas.{open_more}
use Rattle.sc_session.proofs.EndLemmas.{served_at_end, served_at_exchange}
use Rattle.sc_session.proofs.MessageEndLemmas.{nothing_reported, last_without_request-plain, ends_as_reported}
use Rattle.sc_session.proofs.connection.serve_with.Goals as goal

pub returns-in-Err-clause-connection : goal.returns-in-Err-clause-connection
returns-in-Err-clause-connection g c =
    let gives = g.C.Clock.gives in
    let layout = g.D.Desk.layout c.args.desk.now in
    let seen = g.D.Desk.seen c.args.desk.now in
    let unread = g.S.Source.rest c.args.source.now in
    let faults = g.S.Source.faults c.args.source.now in
    let before = beside seen c.args.clock.now (outside_of (g.H.Hosts.started c.args.hosts.now) (g.H.Hosts.start_faults c.args.hosts.now) (g.H.Hosts.stop_faults c.args.hosts.now) (g.P.Pace.stops c.args.pace.now) (g.H.Hosts.reached c.args.hosts.now)) c.args.trail.now unread (g.W.Sink.written c.args.sink.now) faults (g.W.Sink.faults c.args.sink.now) (g.G.Gate.state c.args.gate.now) in
    let then = beside seen c.args.clock.now (outside_of (g.H.Hosts.started c.args.hosts.now) (g.H.Hosts.start_faults c.args.hosts.now) (g.H.Hosts.stop_faults c.args.hosts.now) (g.P.Pace.stops c.args.pace.now) (g.H.Hosts.reached c.args.hosts.now)) c.args.trail.now unread (g.W.Sink.written c.end_with.new.sink) faults (g.W.Sink.faults c.end_with.new.sink) (g.G.Gate.state c.args.gate.now) in
    served_at_end gives layout before before then [] out_of_memory c.end_with.result
    (open_first gives layout before (ap (λ (k : Kept). k.stops) c.requires.trail) (ap (λ (k : Kept). k.requests) c.requires.trail))
    tt c.buckets.ensures.legal refl refl refl refl (λ some. some) (nothing_reported unread unread) c.end_with.ensures.ends
    (record { rises = λ fault. absurd (let end = c.end_with.ensures.read_fault.0 fault in cc); stays = λ none. refl })
    c.end_with.ensures.write_faults

pub loop-request-init : goal.loop-request-init
loop-request-init g c =
    let gives = g.C.Clock.gives in
    let layout = g.D.Desk.layout c.args.desk.now in
    let before = beside (g.D.Desk.seen c.args.desk.now) c.args.clock.now (outside_of (g.H.Hosts.started c.args.hosts.now) (g.H.Hosts.start_faults c.args.hosts.now) (g.H.Hosts.stop_faults c.args.hosts.now) (g.P.Pace.stops c.args.pace.now) (g.H.Hosts.reached c.args.hosts.now)) c.args.trail.now (g.S.Source.rest c.args.source.now) (g.W.Sink.written c.args.sink.now) (g.S.Source.faults c.args.source.now) (g.W.Sink.faults c.args.sink.now) (g.G.Gate.state c.args.gate.now) in
    record {
      is_open = subst (IsOpen gives layout before before) (sym c.in-Ok.ensures)
          (open_first gives layout before (ap (λ (k : Kept). k.stops) c.requires.trail) (ap (λ (k : Kept). k.requests) c.requires.trail));
      legal = c.buckets.ensures.legal;
      layout = refl;
      nothing_out = c.requires.nothing_out;
      fits = c.requires.fits;
      since = g.met.G.Gate.since_same c.args.gate.now;
    }

pub exchange-requires-clause-buckets : goal.exchange-requires-clause-buckets
exchange-requires-clause-buckets g c κs within =
    subst IsBucketCount (c.buckets.ensures.count ∙ sym (ap (λ (n : Layout). n.buckets) c.loop-request.invariant.layout)) c.buckets.ensures.power

pub exchange-requires-clause-rest : goal.exchange-requires-clause-rest
exchange-requires-clause-rest g c κs within = record {
  nothing_out = c.loop-request.invariant.nothing_out;
  legal = subst (λ (n : Layout). AreLegal n (g.D.Desk.seen c.loop-request.desk)) (sym c.loop-request.invariant.layout) c.loop-request.invariant.legal;
}

pub exchange-requires-clause-open : goal.exchange-requires-clause-open
exchange-requires-clause-open g c κs within = c.loop-request.invariant.is_open.more

pub returns-in-Some-clause-connection : goal.returns-in-Some-clause-connection
returns-in-Some-clause-connection g c =
    let gives = g.C.Clock.gives in
    let layout = g.D.Desk.layout c.args.desk.now in
    let before = beside (g.D.Desk.seen c.args.desk.now) c.args.clock.now (outside_of (g.H.Hosts.started c.args.hosts.now) (g.H.Hosts.start_faults c.args.hosts.now) (g.H.Hosts.stop_faults c.args.hosts.now) (g.P.Pace.stops c.args.pace.now) (g.H.Hosts.reached c.args.hosts.now)) c.args.trail.now (g.S.Source.rest c.args.source.now) (g.W.Sink.written c.args.sink.now) (g.S.Source.faults c.args.source.now) (g.W.Sink.faults c.args.sink.now) (g.G.Gate.state c.args.gate.now) in
    let now = beside (g.D.Desk.seen c.loop-request.desk) c.loop-request.clock (outside_of (g.H.Hosts.started c.loop-request.hosts) (g.H.Hosts.start_faults c.loop-request.hosts) (g.H.Hosts.stop_faults c.loop-request.hosts) (g.P.Pace.stops c.loop-request.pace) (g.H.Hosts.reached c.loop-request.hosts)) c.loop-request.trail (g.S.Source.rest c.loop-request.source) (g.W.Sink.written c.loop-request.sink) (g.S.Source.faults c.loop-request.source) (g.W.Sink.faults c.loop-request.sink) (g.G.Gate.state c.loop-request.gate) in
    let then = beside (g.D.Desk.seen c.exchange.new.desk) c.exchange.new.clock (outside_of (g.H.Hosts.started c.exchange.new.hosts) (g.H.Hosts.start_faults c.exchange.new.hosts) (g.H.Hosts.stop_faults c.exchange.new.hosts) (g.P.Pace.stops c.exchange.new.pace) (g.H.Hosts.reached c.exchange.new.hosts)) c.exchange.new.trail (g.S.Source.rest c.next_message.new.source) (g.W.Sink.written c.exchange.new.sink) (g.S.Source.faults c.next_message.new.source) (g.W.Sink.faults c.exchange.new.sink) (g.G.Gate.state c.exchange.new.gate) in
    let request = c.in-Ok-next_message.request in
    served_at_exchange gives layout before now then c.loop-request.reader c.next_message.new.self request c.in-Some.end
    c.loop-request.invariant.is_open
    (subst (λ (n : Layout). Exchanges gives n request (without_source now) (without_source then) (Some c.in-Some.end)) c.loop-request.invariant.layout c.in-Some.ensures.exchange)
    (subst (λ (n : Layout). AreLegal n then.moment.view.seen) (c.in-Some.ensures.layout ∙ c.loop-request.invariant.layout) c.in-Some.ensures.rest.legal)
    c.in-Ok-next_message.ensures.reports c.in-Ok-next_message.ensures.message (c.in-Ok-next_message.ensures.faults.steady (λ e. absurd (cc)))

pub loop-request-preserved : goal.loop-request-preserved
loop-request-preserved g c =
    let gives = g.C.Clock.gives in
    let layout = g.D.Desk.layout c.args.desk.now in
    let before = beside (g.D.Desk.seen c.args.desk.now) c.args.clock.now (outside_of (g.H.Hosts.started c.args.hosts.now) (g.H.Hosts.start_faults c.args.hosts.now) (g.H.Hosts.stop_faults c.args.hosts.now) (g.P.Pace.stops c.args.pace.now) (g.H.Hosts.reached c.args.hosts.now)) c.args.trail.now (g.S.Source.rest c.args.source.now) (g.W.Sink.written c.args.sink.now) (g.S.Source.faults c.args.source.now) (g.W.Sink.faults c.args.sink.now) (g.G.Gate.state c.args.gate.now) in
    let now = beside (g.D.Desk.seen c.loop-request.desk) c.loop-request.clock (outside_of (g.H.Hosts.started c.loop-request.hosts) (g.H.Hosts.start_faults c.loop-request.hosts) (g.H.Hosts.stop_faults c.loop-request.hosts) (g.P.Pace.stops c.loop-request.pace) (g.H.Hosts.reached c.loop-request.hosts)) c.loop-request.trail (g.S.Source.rest c.loop-request.source) (g.W.Sink.written c.loop-request.sink) (g.S.Source.faults c.loop-request.source) (g.W.Sink.faults c.loop-request.sink) (g.G.Gate.state c.loop-request.gate) in
    let then = beside (g.D.Desk.seen c.exchange.new.desk) c.exchange.new.clock (outside_of (g.H.Hosts.started c.exchange.new.hosts) (g.H.Hosts.start_faults c.exchange.new.hosts) (g.H.Hosts.stop_faults c.exchange.new.hosts) (g.P.Pace.stops c.exchange.new.pace) (g.H.Hosts.reached c.exchange.new.hosts)) c.exchange.new.trail (g.S.Source.rest c.next_message.new.source) (g.W.Sink.written c.exchange.new.sink) (g.S.Source.faults c.next_message.new.source) (g.W.Sink.faults c.exchange.new.sink) (g.G.Gate.state c.exchange.new.gate) in
    let request = c.in-Ok-next_message.request in
    record {
      is_open = open_more gives layout before now then c.loop-request.reader c.next_message.new.self request
          c.loop-request.invariant.is_open
          (subst (λ (n : Layout). Exchanges gives n request (without_source now) (without_source then) None) c.loop-request.invariant.layout c.in_default.ensures.exchange)
          c.in-Ok-next_message.ensures.reports c.in-Ok-next_message.ensures.message (c.in-Ok-next_message.ensures.faults.steady (λ e. absurd (cc)));
      legal = subst (λ (n : Layout). AreLegal n then.moment.view.seen) (c.exchange.ensures.layout ∙ c.loop-request.invariant.layout) c.exchange.ensures.rest.legal;
      layout = c.exchange.ensures.layout ∙ c.loop-request.invariant.layout;
      nothing_out = c.exchange.ensures.rest.nothing_out;
      fits = c.exchange.ensures.fits;
      since = g.met.G.Gate.since_then c.args.gate.now c.loop-request.gate c.exchange.new.gate c.loop-request.invariant.since c.exchange.ensures.since;
    }

pub returns-in-Err-next_message-clause-connection :
    goal.returns-in-Err-next_message-clause-connection
returns-in-Err-next_message-clause-connection g c =
    let gives = g.C.Clock.gives in
    let layout = g.D.Desk.layout c.args.desk.now in
    let before = beside (g.D.Desk.seen c.args.desk.now) c.args.clock.now (outside_of (g.H.Hosts.started c.args.hosts.now) (g.H.Hosts.start_faults c.args.hosts.now) (g.H.Hosts.stop_faults c.args.hosts.now) (g.P.Pace.stops c.args.pace.now) (g.H.Hosts.reached c.args.hosts.now)) c.args.trail.now (g.S.Source.rest c.args.source.now) (g.W.Sink.written c.args.sink.now) (g.S.Source.faults c.args.source.now) (g.W.Sink.faults c.args.sink.now) (g.G.Gate.state c.args.gate.now) in
    let now = beside (g.D.Desk.seen c.loop-request.desk) c.loop-request.clock (outside_of (g.H.Hosts.started c.loop-request.hosts) (g.H.Hosts.start_faults c.loop-request.hosts) (g.H.Hosts.stop_faults c.loop-request.hosts) (g.P.Pace.stops c.loop-request.pace) (g.H.Hosts.reached c.loop-request.hosts)) c.loop-request.trail (g.S.Source.rest c.loop-request.source) (g.W.Sink.written c.loop-request.sink) (g.S.Source.faults c.loop-request.source) (g.W.Sink.faults c.loop-request.sink) (g.G.Gate.state c.loop-request.gate) in
    let then = beside (g.D.Desk.seen c.loop-request.desk) c.loop-request.clock (outside_of (g.H.Hosts.started c.loop-request.hosts) (g.H.Hosts.start_faults c.loop-request.hosts) (g.H.Hosts.stop_faults c.loop-request.hosts) (g.P.Pace.stops c.loop-request.pace) (g.H.Hosts.reached c.loop-request.hosts)) c.loop-request.trail (g.S.Source.rest c.next_message.new.source) (g.W.Sink.written c.end_with-in-Err-next_message.new.sink) (g.S.Source.faults c.next_message.new.source) (g.W.Sink.faults c.end_with-in-Err-next_message.new.sink) (g.G.Gate.state c.loop-request.gate) in
    let held = c.loop-request.reader in
    let end = c.in-Err-next_message.end in
    let fault_is = c.end_with-in-Err-next_message.ensures.read_fault in
    served_at_end gives layout before now then held (last_without_request end) c.end_with-in-Err-next_message.result
    c.loop-request.invariant.is_open (last_without_request-plain end) c.loop-request.invariant.legal refl refl refl refl
    c.in-Err-next_message.ensures.reports
    (ends_as_reported end held now.unread then.unread c.in-Err-next_message.ensures.ends (λ e. c.in-Err-next_message.ensures.unfinished (ap Err e)))
    c.end_with-in-Err-next_message.ensures.ends
    (record {
      rises = λ fault. c.in-Err-next_message.ensures.faults.cause (ap Err (fault_is.0 fault));
      stays = λ none. c.in-Err-next_message.ensures.faults.steady (λ e. none (fault_is.1 (let same : end ≡ reads.ReadFault = cc in same)));
    })
    c.end_with-in-Err-next_message.ensures.write_faults
