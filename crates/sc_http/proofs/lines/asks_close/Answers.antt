-- The lines are looked at one after another.
use Rattle.std.proofs.Common.{codes, sym, ap, ◌∙◌}
use Rattle.std.specs.Prelude.{◌&&◌, ◌==◌}
use Rattle.std.specs.List.{list_any, slice_split}
use Rattle.std.proofs.lemmas.List.{take_all}
use Rattle.std.proofs.lemmas.List.Folds.{list_any_at}
use Rattle.httparse.specs.Spans.{header_bytes}
use Rattle.sc_model.specs.Heads.{comma}
use Rattle.sc_http.specs.Lines.{is_named, is_close}
use Rattle.sc_http.proofs.HeaderLemmas.{any_close, none_more}
use Rattle.sc_http.proofs.lines.asks_close.Goals as goal

pub loop-line-preserved : goal.loop-line-preserved
loop-line-preserved c =
    none_more (λ line. is_named (codes "connection") (header_bytes c.args.head.now line) && list_any is_close (slice_split (λ b. b == comma) (header_bytes c.args.head.now line).1))
    c.args.lines.now c.loop-line.line-index _ c.loop-line-test.true
    c.loop-line.invariant (sym c.line_asks_close.ensures ∙ c.if-line_asks_close.false)

pub returns-then-line_asks_close : goal.returns-then-line_asks_close
returns-then-line_asks_close c =
    sym (any_close (codes "connection") (header_bytes c.args.head.now) c.args.lines.now
    ∙ list_any_at (λ line. is_named (codes "connection") (header_bytes c.args.head.now line) && list_any is_close (slice_split (λ b. b == comma) (header_bytes c.args.head.now line).1))
    c.args.lines.now c.loop-line.line-index _ c.loop-line-test.true
    (sym c.line_asks_close.ensures ∙ c.if-line_asks_close.true))

pub returns : goal.returns
returns c =
    sym (any_close (codes "connection") (header_bytes c.args.head.now) c.args.lines.now
    ∙ ap (list_any (λ line. is_named (codes "connection") (header_bytes c.args.head.now line) && list_any is_close (slice_split (λ b. b == comma) (header_bytes c.args.head.now line).1)))
    (sym (take_all c.loop-line.line-index c.args.lines.now c.loop-line-test.false))
    ∙ c.loop-line.invariant)
