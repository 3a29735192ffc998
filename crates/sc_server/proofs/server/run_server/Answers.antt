-- Nothing was given, the port was not opened, or the crews of the workers are back.
use Rattle.std.proofs.Common.{◌≡◌, ◌∙◌, length, refl, sym, ap, subst, arith}
use Rattle.std.specs.List.{All}
use Rattle.std.proofs.lemmas.List.Elements.{All-weaker}
use Rattle.sc_server.specs.Working.{IsReady, IsReadyToWork}
use Rattle.sc_server.proofs.NeedsLemmas.{numbers}
use Rattle.sc_server.proofs.EnlistLemmas.{all_ready}
use Rattle.sc_server.proofs.WorkerLemmas.{on_ok, on_err, ready_to_work}
use Rattle.sc_shared.specs.Passes.{seen_of}
use Rattle.sc_server.specs.Serving.{EndsServer}
use Rattle.sc_server.proofs.EndLemmas.{same_items, same_length, as_served, served_as, told_of, station_of, none_given, not_opened, some_given, all_given}
use Rattle.sc_server.proofs.server.run_server.Goals.{in-Ok-enlist, in-Err-enlist}
use Rattle.sc_server.proofs.server.run_server.Goals as goal

pub returns-in-Err : goal.returns-in-Err
returns-in-Err g c = record {
  ends = none_given _ c.args.server.now _ _
      (record {
        crews = g.T.Station.crews c.args.station.now;
        crews_back = g.T.Station.crews_back c.args.station.now;
        out = g.T.Station.out c.args.station.now;
        faults = g.T.Station.faults c.args.station.now;
        opened = g.T.Station.opened c.args.station.now;
      })
      (record { crews = refl; crews_back = refl; out = λ number. refl; faults = refl }) refl refl (λ number. refl) refl
      (record { written = refl; write_faults = refl });
}

pub returns-then-is_err : goal.returns-then-is_err
returns-then-is_err g c = record {
  ends = not_opened _ c.args.server.now _ _ c.open.ensures.crews c.open.ensures.crews_back c.open.ensures.out
      (on_err _ c.open.result (sym c.is_err.ensures.value ∙ c.if-is_err.true) c.open.ensures.cause)
      (on_err _ c.open.result (sym c.is_err.ensures.value ∙ c.if-is_err.true) c.open.ensures.not_opened)
      (record { written = refl; write_faults = refl });
}

pub returns-in_default : goal.returns-in_default
returns-in_default g c = record {
  ends = none_given _ c.args.server.now _ _
      (record {
        crews = g.T.Station.crews c.open.new.self;
        crews_back = g.T.Station.crews_back c.open.new.self;
        out = g.T.Station.out c.open.new.self;
        faults = g.T.Station.faults c.open.new.self;
        opened = g.T.Station.opened c.open.new.self;
      })
      (record {
        crews = c.open.ensures.crews;
        crews_back = c.open.ensures.crews_back;
        out = c.open.ensures.out;
        faults = on_ok _ c.open.result (sym c.is_err.ensures.value ∙ c.if-is_err.false) c.open.ensures.steady;
      })
      refl refl (λ number. refl) refl (record { written = refl; write_faults = refl });
}

pub enlist-requires-clause-few : goal.enlist-requires-clause-few
enlist-requires-clause-few g c κs within = omega (arith, c.in-Ok.ensures.count, (numbers c.args.server.now c.requires.server).workers.1)

pub serve_all-status-requires-clause-ready : goal.serve_all-status-requires-clause-ready
serve_all-status-requires-clause-ready g c κs within =
    let locks = c.in-Ok.needs.collection in
    let workers = c.enlist.new.workers.items in
    let each = all_ready c.args.server.now locks (g.T.Station.crews c.open.new.self) workers (numbers c.args.server.now c.requires.server).most
    c.enlist.ensures.have.enlisted in
    subst (All IsReadyToWork) (sym c.as_mut_slice.ensures.value)
    (All-weaker (IsReady locks) IsReadyToWork (ready_to_work locks) workers each)

pub serve_all-status-requires-clause-some : goal.serve_all-status-requires-clause-some
serve_all-status-requires-clause-some g c κs within =
    let all : length c.as_mut_slice.result.now ≡ length c.enlist.new.workers.items = ap length c.as_mut_slice.ensures.value in
    omega (arith, all, c.in-Ok-enlist.ensures.all, c.in-Ok.ensures.count, (numbers c.args.server.now c.requires.server).workers.0)

pub dismiss-requires-clause-few : goal.dismiss-requires-clause-few
dismiss-requires-clause-few g c κs within =
    let most = (numbers c.args.server.now c.requires.server).workers.1 in
    elim c.match-enlist.branch [
      | in-Ok-enlist w ↦
          let served = as_served c.enlist.new.workers c.match-enlist.workers w.serve_all-status.new.workers w.as_mut_slice.result.now w.workers-is
          w.serve_all-status.ensures.count w.as_mut_slice.ensures.value c.enlist.new.workers.ok.0 in
          let long : length c.match-enlist.workers.items ≡ length w.serve_all-status.new.workers = ap length served in
          let all : length w.as_mut_slice.result.now ≡ length c.enlist.new.workers.items = ap length w.as_mut_slice.ensures.value in
          omega (arith, long, all, w.serve_all-status.ensures.count, c.enlist.ensures.at_most, c.in-Ok.ensures.count, most)
      | in-Err-enlist w ↦
          let long : length c.match-enlist.workers.items ≡ length c.enlist.new.workers.items = same_length c.match-enlist.workers c.enlist.new.workers w.workers-is in
          omega (arith, long, c.enlist.ensures.at_most, c.in-Ok.ensures.count, most)
    ]

pub dismiss-requires-clause-workers : goal.dismiss-requires-clause-workers
dismiss-requires-clause-workers g c κs within =
    let locks = c.in-Ok.needs.collection in
    let each = all_ready c.args.server.now locks (g.T.Station.crews c.open.new.self) c.enlist.new.workers.items
    (numbers c.args.server.now c.requires.server).most c.enlist.ensures.have.enlisted in
    elim c.match-enlist.branch [
      | in-Ok-enlist w ↦
          subst (All (IsReady locks))
          (sym (as_served c.enlist.new.workers c.match-enlist.workers w.serve_all-status.new.workers w.as_mut_slice.result.now w.workers-is
          w.serve_all-status.ensures.count w.as_mut_slice.ensures.value c.enlist.new.workers.ok.0))
          (w.serve_all-status.ensures.ready locks (subst (All (IsReady locks)) (sym w.as_mut_slice.ensures.value) each))
      | in-Err-enlist w ↦ subst (All (IsReady locks)) (sym (same_items c.match-enlist.workers c.enlist.new.workers w.workers-is)) each
    ]

pub dismiss-requires-clause-out : goal.dismiss-requires-clause-out
dismiss-requires-clause-out g c κs within =
    elim c.match-enlist.branch [
      | in-Ok-enlist w ↦ λ number below.
          let served = as_served c.enlist.new.workers c.match-enlist.workers w.serve_all-status.new.workers w.as_mut_slice.result.now w.workers-is
          w.serve_all-status.ensures.count w.as_mut_slice.ensures.value c.enlist.new.workers.ok.0 in
          let long : length c.match-enlist.workers.items ≡ length w.serve_all-status.new.workers = ap length served in
          let all : length w.as_mut_slice.result.now ≡ length c.enlist.new.workers.items = ap length w.as_mut_slice.ensures.value in
          c.enlist.ensures.have.out.below number (omega (arith, below, long, all, w.serve_all-status.ensures.count))
      | in-Err-enlist w ↦ λ number below.
          let long : length c.match-enlist.workers.items ≡ length c.enlist.new.workers.items = same_length c.match-enlist.workers c.enlist.new.workers w.workers-is in
          c.enlist.ensures.have.out.below number (omega (arith, below, long))
    ]

pub returns : goal.returns
returns g c =
    let opened = station_of (g.T.Station.crews c.open.new.self) (g.T.Station.crews_back c.open.new.self) (g.T.Station.out c.open.new.self)
    (g.T.Station.faults c.open.new.self) (g.T.Station.opened c.open.new.self) in
    let now = station_of (g.T.Station.crews c.enlist.new.station) (g.T.Station.crews_back c.enlist.new.station) (g.T.Station.out c.enlist.new.station)
    (g.T.Station.faults c.enlist.new.station) (g.T.Station.opened c.enlist.new.station) in
    let most = (numbers c.args.server.now c.requires.server).workers.1 in
    record {
      ends = elim c.match-enlist.branch [
        | in-Ok-enlist w ↦
            let served = as_served c.enlist.new.workers c.match-enlist.workers w.serve_all-status.new.workers w.as_mut_slice.result.now w.workers-is
            w.serve_all-status.ensures.count w.as_mut_slice.ensures.value c.enlist.new.workers.ok.0 in
            all_given _ c.args.server.now _ _ c.in-Ok.needs.collection opened now c.enlist.new.workers.items c.match-enlist.workers.items
            (record {
              crews = c.open.ensures.crews;
              crews_back = c.open.ensures.crews_back;
              out = c.open.ensures.out;
              faults = on_ok _ c.open.result (sym c.is_err.ensures.value ∙ c.if-is_err.false) c.open.ensures.steady;
            })
            c.enlist.ensures.have c.dismiss.ensures.back
            w.as_slice.result.now w.as_bytes.result.now (seen_of c.dismiss.new.passes) c.in-Ok.ensures.shape c.in-Ok.ensures.passes.opened
            (w.as_slice.ensures ∙ c.in-Ok.ensures.cores)
            (w.as_bytes.ensures.value ∙ c.in-Ok.ensures.line) (w.in-Ok-enlist.ensures.all ∙ c.in-Ok.ensures.count)
            (ap length served ∙ w.serve_all-status.ensures.count ∙ ap length w.as_mut_slice.ensures.value) c.dismiss.ensures.story
            (on_ok _ c.open.result (sym c.is_err.ensures.value ∙ c.if-is_err.false) c.open.ensures.opened)
            (served_as _ w.as_slice.result.now w.as_bytes.result.now w.as_mut_slice.result.now c.enlist.new.workers.items w.serve_all-status.new.workers
            c.match-enlist.workers.items _ _ _ w.serve_all-status.result c.match-enlist.status w.as_mut_slice.ensures.value served
            (ap (λ (sink : g.row.W.Denot). told_of (g.W.Sink.written sink) (g.W.Sink.faults sink)) w.sink-is) w.status-is w.serve_all-status.ensures.ends)
        | in-Err-enlist w ↦
            subst (EndsServer _ c.args.server.now _ _) (sym w.status-is)
            (some_given _ c.args.server.now _ _ c.in-Ok.needs.collection opened now c.enlist.new.workers.items c.match-enlist.workers.items
            (record {
              crews = c.open.ensures.crews;
              crews_back = c.open.ensures.crews_back;
              out = c.open.ensures.out;
              faults = on_ok _ c.open.result (sym c.is_err.ensures.value ∙ c.if-is_err.false) c.open.ensures.steady;
            })
            c.enlist.ensures.have c.dismiss.ensures.back
            (same_items c.match-enlist.workers c.enlist.new.workers w.workers-is)
            (omega (arith, c.enlist.ensures.at_most, c.in-Ok.ensures.count))
            (record { written = ap g.W.Sink.written w.sink-is; write_faults = ap g.W.Sink.faults w.sink-is }))
      ];
    }
