-- The lines are looked at one after another.
use Rattle.std.proofs.Common.{sym, ap, ◌∙◌}
use Rattle.std.specs.List.{list_any}
use Rattle.std.proofs.lemmas.List.{take_all}
use Rattle.std.proofs.lemmas.List.Folds.{list_any_at}
use Rattle.httparse.specs.Spans.{header_bytes}
use Rattle.sc_model.specs.Heads.{is_framing}
use Rattle.sc_http.proofs.HeaderLemmas.{list_any-map, none_more}
use Rattle.sc_http.proofs.framing.has_framing.Goals as goal

pub returns-then-states_framing : goal.returns-then-states_framing
returns-then-states_framing c =
    sym (list_any-map is_framing (header_bytes c.args.head.now) c.args.lines.now
    ∙ list_any_at (λ line. is_framing (header_bytes c.args.head.now line)) c.args.lines.now c.loop-line.line-index _ c.loop-line-test.true
    (sym c.states_framing.ensures ∙ c.if-states_framing.true))

pub loop-line-preserved : goal.loop-line-preserved
loop-line-preserved c =
    none_more (λ line. is_framing (header_bytes c.args.head.now line)) c.args.lines.now c.loop-line.line-index _ c.loop-line-test.true
    c.loop-line.invariant (sym c.states_framing.ensures ∙ c.if-states_framing.false)

pub returns : goal.returns
returns c =
    sym (list_any-map is_framing (header_bytes c.args.head.now) c.args.lines.now
    ∙ ap (list_any (λ line. is_framing (header_bytes c.args.head.now line))) (sym (take_all c.loop-line.line-index c.args.lines.now c.loop-line-test.false))
    ∙ c.loop-line.invariant)
