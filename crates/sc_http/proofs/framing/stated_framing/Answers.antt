-- The first line that states the framing decides, and another one after it is refused.
use Rattle.std.proofs.Common.{◌+◌, true, false, sym, ap, ◌∙◌}
use Rattle.std.specs.List.{list_any}
use Rattle.std.proofs.lemmas.List.{take_all, take_rest}
use Rattle.std.proofs.lemmas.Result.{err_from_is_err_and}
use Rattle.httparse.specs.Spans.{header_bytes}
use Rattle.sc_model.specs.Heads.{is_framing, framing_by}
use Rattle.sc_http.specs.Lines.{fault_of, framing_said}
use Rattle.sc_http.proofs.HeaderLemmas.{none_more}
use Rattle.sc_http.proofs.FramingLemmas.{no_framing, states_fault, states_framing}
use Rattle.sc_http.proofs.framing.stated_framing.Goals as goal

pub loop-i-preserved : goal.loop-i-preserved
loop-i-preserved c =
    none_more (λ line. is_framing (header_bytes c.args.head.now line)) c.args.lines.now c.loop-i.i _ c.loop-i-test.true
    c.loop-i.invariant (sym c.states_framing.ensures ∙ c.if-states_framing.false)

pub returns-in_err-framing-clause-framing : goal.returns-in_err-framing-clause-framing
returns-in_err-framing-clause-framing c =
    let p = err_from_is_err_and c.from_residual.result c.from_residual.ensures.1 in
    rw (p.1, p.2) (sym (states_fault (header_bytes c.args.head.now) c.args.lines.now c.loop-i.i _ (fault_of c.in_err-framing.field-0.0)
    c.loop-i-test.true c.loop-i.invariant (sym c.states_framing.ensures ∙ c.if-states_framing.true) (sym c.in_err-framing.ensures.framing)))

pub returns-then-has_framing-clause-framing : goal.returns-then-has_framing-clause-framing
returns-then-has_framing-clause-framing c =
    sym (states_framing (header_bytes c.args.head.now) c.args.lines.now c.loop-i.i _ (framing_said c.in_ok-framing.framing)
    c.loop-i-test.true c.loop-i.invariant (sym c.states_framing.ensures ∙ c.if-states_framing.true) (sym c.in_ok-framing.ensures.framing)
    _ (take_rest c.args.lines.now (c.loop-i.i + 1)) true c.if-has_framing.ensures)

pub returns-then-states_framing-clause-framing : goal.returns-then-states_framing-clause-framing
returns-then-states_framing-clause-framing c =
    sym (states_framing (header_bytes c.args.head.now) c.args.lines.now c.loop-i.i _ (framing_said c.in_ok-framing.framing)
    c.loop-i-test.true c.loop-i.invariant (sym c.states_framing.ensures ∙ c.if-states_framing.true) (sym c.in_ok-framing.ensures.framing)
    _ (take_rest c.args.lines.now (c.loop-i.i + 1)) false c.if-has_framing.ensures)

pub returns-clause-framing : goal.returns-clause-framing
returns-clause-framing c =
    sym (ap framing_by (no_framing (header_bytes c.args.head.now) c.args.lines.now
    (ap (list_any (λ line. is_framing (header_bytes c.args.head.now line))) (sym (take_all c.loop-i.i c.args.lines.now c.loop-i-test.false))
    ∙ c.loop-i.invariant)))
