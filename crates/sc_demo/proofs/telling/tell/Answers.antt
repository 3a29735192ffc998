-- Memory ran out, or the lines were written, or a prefix of them.
use Rattle.std.proofs.Common.{◌≡◌, ◌∙◌, true, false, refl, sym, subst}
use Rattle.sc_shared.specs.Passes.{seen_of}
use Rattle.sc_shared.specs.Collections.{layout_of}
use Rattle.sc_server.proofs.EndLemmas.{told_of}
use Rattle.sc_server.proofs.WorkerLemmas.{on_ok, on_err}
use Rattle.sc_demo.specs.declared.task.Outcome.{Outcome}
use Rattle.sc_demo.specs.Telling.{TellsOutcome, TellsReport, after_makers}
use Rattle.sc_demo.proofs.TellLemmas.{tells_fail, tells_whole}
use Rattle.sc_demo.proofs.telling.tell.Goals as goal

pub returns-in_default : goal.returns-in_default
returns-in_default g c =
    let told = told_of (g.W.Sink.written c.args.sink.now) (g.W.Sink.faults c.args.sink.now) in
    subst (λ (outcome : Outcome). TellsOutcome (after_makers (layout_of c.args.collection.now) (seen_of c.args.passes)) c.args.demo.now.count told told outcome 6) (sym c.in-Told.is)
    (TellsReport.no_memory refl)

pub returns-then-is_err : goal.returns-then-is_err
returns-then-is_err g c =
    let before = told_of (g.W.Sink.written c.args.sink.now) (g.W.Sink.faults c.args.sink.now) in
    let after = told_of (g.W.Sink.written c.write.new.self) (g.W.Sink.faults c.write.new.self) in
    subst (λ (outcome : Outcome). TellsOutcome (after_makers (layout_of c.args.collection.now) (seen_of c.args.passes)) c.args.demo.now.count before after outcome 5) (sym c.in-Told.is)
    (tells_fail (layout_of c.args.collection.now) (seen_of c.args.passes) c.args.demo.now.count c.in-Told.accepted c.in-Told.split c.as_str.result.now c.as_bytes.result.now _
    before after c.as_str.ensures c.in-Ok.ensures c.as_bytes.ensures.value
    (on_err _ c.write.result (sym c.is_err.ensures.value ∙ c.if-is_err.true) c.write.ensures.cause)
    (on_err _ c.write.result (sym c.is_err.ensures.value ∙ c.if-is_err.true) c.write.ensures.failed))

pub returns : goal.returns
returns g c =
    let before = told_of (g.W.Sink.written c.args.sink.now) (g.W.Sink.faults c.args.sink.now) in
    let after = told_of (g.W.Sink.written c.write.new.self) (g.W.Sink.faults c.write.new.self) in
    subst (λ (outcome : Outcome). TellsOutcome (after_makers (layout_of c.args.collection.now) (seen_of c.args.passes)) c.args.demo.now.count before after outcome 0) (sym c.in-Told.is)
    (tells_whole (layout_of c.args.collection.now) (seen_of c.args.passes) c.args.demo.now.count c.in-Told.accepted c.in-Told.split c.as_str.result.now c.as_bytes.result.now _
    before after c.as_str.ensures c.in-Ok.ensures c.as_bytes.ensures.value
    (on_ok _ c.write.result (sym c.is_err.ensures.value ∙ c.if-is_err.false) c.write.ensures.whole)
    (on_ok _ c.write.result (sym c.is_err.ensures.value ∙ c.if-is_err.false) c.write.ensures.steady))
