-- A core was not started, or the line was not written, or all workers have worked from where the first had its cores.
use Rattle.std.proofs.Common.{true, false, refl, sym, ◌∙◌}
use Rattle.sc_server.proofs.WorkerLemmas.{all_ready, all_ready_to_work, on_ok, on_err, serves_host_fails, serves_line_fails, serves_works}
use Rattle.sc_server.proofs.server.serve_all.Goals as goal

pub returns-then-is_err-clause-ends : goal.returns-then-is_err-clause-ends
returns-then-is_err-clause-ends g c =
    serves_host_fails _ c.args.cores.now c.args.line.now c.index-workers-0.result c.args.workers.now c.start_cores.new.hosts c.requires.some
    (record { written = g.W.Sink.written c.args.sink.now; faults = g.W.Sink.faults c.args.sink.now })
    (let rest = on_err _ c.start_cores.result (sym c.is_err.ensures.value ∙ c.if-is_err.true) c.start_cores.ensures.rest in
    record {
      count = rest.0;
      some = rest.1;
      started = rest.2;
      start_faults = on_err _ c.start_cores.result (sym c.is_err.ensures.value ∙ c.if-is_err.true) c.start_cores.ensures.cause;
      stop_faults = c.start_cores.ensures.other_count;
      stops = refl;
      reach = c.start_cores.ensures.reached;
    })

pub returns-then-is_err-clause-ready : goal.returns-then-is_err-clause-ready
returns-then-is_err-clause-ready g c =
    λ collection each. all_ready collection c.start_cores.new.hosts c.index-workers-0.result c.args.workers.now c.requires.some each

pub returns-then-is_err-2-clause-ends : goal.returns-then-is_err-2-clause-ends
returns-then-is_err-2-clause-ends g c =
    serves_line_fails _ c.args.cores.now c.args.line.now c.index-workers-0.result c.args.workers.now c.start_cores.new.hosts c.requires.some
    (record { written = g.W.Sink.written c.args.sink.now; faults = g.W.Sink.faults c.args.sink.now })
    (record { written = g.W.Sink.written c.write.new.self; faults = g.W.Sink.faults c.write.new.self })
    (record {
      started = on_ok _ c.start_cores.result (sym c.is_err.ensures.value ∙ c.if-is_err.false) c.start_cores.ensures.started;
      start_faults = on_ok _ c.start_cores.result (sym c.is_err.ensures.value ∙ c.if-is_err.false) c.start_cores.ensures.steady;
      stop_faults = c.start_cores.ensures.other_count;
      stops = refl;
      reach = c.start_cores.ensures.reached;
    })
    (on_err _ c.write.result (sym c.is_err-2.ensures.value ∙ c.if-is_err-2.true) c.write.ensures.cause)
    (on_err _ c.write.result (sym c.is_err-2.ensures.value ∙ c.if-is_err-2.true) c.write.ensures.failed)

pub returns-then-is_err-2-clause-ready : goal.returns-then-is_err-2-clause-ready
returns-then-is_err-2-clause-ready g c =
    λ collection each. all_ready collection c.start_cores.new.hosts c.index-workers-0.result c.args.workers.now c.requires.some each

pub work_all-requires-clause-ready : goal.work_all-requires-clause-ready
work_all-requires-clause-ready g c κs within =
    all_ready_to_work c.start_cores.new.hosts c.index-workers-0.result c.args.workers.now c.requires.some c.requires.ready

pub returns-then-any_failed-clause-ends : goal.returns-then-any_failed-clause-ends
returns-then-any_failed-clause-ends g c =
    serves_works _ c.args.cores.now c.args.line.now c.index-workers-0.result c.args.workers.now c.start_cores.new.hosts c.requires.some
    c.work_all.new.workers
    (record { written = g.W.Sink.written c.args.sink.now; faults = g.W.Sink.faults c.args.sink.now })
    (record { written = g.W.Sink.written c.write.new.self; faults = g.W.Sink.faults c.write.new.self })
    true
    (record {
      started = on_ok _ c.start_cores.result (sym c.is_err.ensures.value ∙ c.if-is_err.false) c.start_cores.ensures.started;
      start_faults = on_ok _ c.start_cores.result (sym c.is_err.ensures.value ∙ c.if-is_err.false) c.start_cores.ensures.steady;
      stop_faults = c.start_cores.ensures.other_count;
      stops = refl;
      reach = c.start_cores.ensures.reached;
    })
    (on_ok _ c.write.result (sym c.is_err-2.ensures.value ∙ c.if-is_err-2.false) c.write.ensures.whole)
    (on_ok _ c.write.result (sym c.is_err-2.ensures.value ∙ c.if-is_err-2.false) c.write.ensures.steady) c.work_all.ensures.worked
    (sym c.any_failed.ensures ∙ c.if-any_failed.true)

pub returns-then-any_failed-clause-ready : goal.returns-then-any_failed-clause-ready
returns-then-any_failed-clause-ready g c =
    λ collection each. c.work_all.ensures.ready collection (all_ready collection c.start_cores.new.hosts c.index-workers-0.result c.args.workers.now c.requires.some each)

pub returns-else-any_failed-clause-ends : goal.returns-else-any_failed-clause-ends
returns-else-any_failed-clause-ends g c =
    serves_works _ c.args.cores.now c.args.line.now c.index-workers-0.result c.args.workers.now c.start_cores.new.hosts c.requires.some
    c.work_all.new.workers
    (record { written = g.W.Sink.written c.args.sink.now; faults = g.W.Sink.faults c.args.sink.now })
    (record { written = g.W.Sink.written c.write.new.self; faults = g.W.Sink.faults c.write.new.self })
    false
    (record {
      started = on_ok _ c.start_cores.result (sym c.is_err.ensures.value ∙ c.if-is_err.false) c.start_cores.ensures.started;
      start_faults = on_ok _ c.start_cores.result (sym c.is_err.ensures.value ∙ c.if-is_err.false) c.start_cores.ensures.steady;
      stop_faults = c.start_cores.ensures.other_count;
      stops = refl;
      reach = c.start_cores.ensures.reached;
    })
    (on_ok _ c.write.result (sym c.is_err-2.ensures.value ∙ c.if-is_err-2.false) c.write.ensures.whole)
    (on_ok _ c.write.result (sym c.is_err-2.ensures.value ∙ c.if-is_err-2.false) c.write.ensures.steady) c.work_all.ensures.worked
    (sym c.any_failed.ensures ∙ c.if-any_failed.false)

pub returns-else-any_failed-clause-ready : goal.returns-else-any_failed-clause-ready
returns-else-any_failed-clause-ready g c =
    λ collection each. c.work_all.ensures.ready collection (all_ready collection c.start_cores.new.hosts c.index-workers-0.result c.args.workers.now c.requires.some each)
