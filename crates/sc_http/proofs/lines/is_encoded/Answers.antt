-- The lines are looked at one after another.
use Rattle.std.proofs.Common.{codes, sym, ap, ◌∙◌}
use Rattle.std.specs.Prelude.{◌&&◌}
use Rattle.std.specs.List.{list_any}
use Rattle.std.proofs.lemmas.List.{take_all}
use Rattle.std.proofs.lemmas.List.Folds.{list_any_at}
use Rattle.httparse.specs.Spans.{header_bytes}
use Rattle.sc_model.specs.Heads.{is_coding}
use Rattle.sc_http.specs.Lines.{is_named}
use Rattle.sc_http.proofs.HeaderLemmas.{any_value, none_more}
use Rattle.sc_http.proofs.lines.is_encoded.Goals as goal

pub loop-line-preserved : goal.loop-line-preserved
loop-line-preserved c =
    none_more (λ line. is_named (codes "content-encoding") (header_bytes c.args.head.now line) && is_coding (header_bytes c.args.head.now line).1)
    c.args.lines.now c.loop-line.line-index _ c.loop-line-test.true
    c.loop-line.invariant (sym c.line_encodes.ensures ∙ c.if-line_encodes.false)

pub returns-then-line_encodes : goal.returns-then-line_encodes
returns-then-line_encodes c =
    sym (any_value is_coding (codes "content-encoding") (header_bytes c.args.head.now) c.args.lines.now
    ∙ list_any_at (λ line. is_named (codes "content-encoding") (header_bytes c.args.head.now line) && is_coding (header_bytes c.args.head.now line).1)
    c.args.lines.now c.loop-line.line-index _ c.loop-line-test.true
    (sym c.line_encodes.ensures ∙ c.if-line_encodes.true))

pub returns : goal.returns
returns c =
    sym (any_value is_coding (codes "content-encoding") (header_bytes c.args.head.now) c.args.lines.now
    ∙ ap (list_any (λ line. is_named (codes "content-encoding") (header_bytes c.args.head.now line) && is_coding (header_bytes c.args.head.now line).1))
    (sym (take_all c.loop-line.line-index c.args.lines.now c.loop-line-test.false))
    ∙ c.loop-line.invariant)
