-- No line so far asks to close.
use Rattle.std.proofs.Common.{◌≡◌, false, take, codes}
use Rattle.std.specs.Prelude.{◌&&◌, ◌==◌}
use Rattle.std.specs.List.{list_any, slice_split}
use Rattle.httparse.specs.Spans.{header_bytes}
use Rattle.sc_model.specs.Heads.{comma}
use Rattle.sc_http.specs.Lines.{is_named, is_close}
use Rattle.sc_http.proofs.lines.asks_close.Given as goal

abbrev pub invariant-loop-line : goal.invariant-loop-line
invariant-loop-line l =
    list_any (λ line. is_named (codes "connection") (header_bytes l.head line) && list_any is_close (slice_split (λ b. b == comma) (header_bytes l.head line).1))
    (take l.line-index l.lines) ≡ false
