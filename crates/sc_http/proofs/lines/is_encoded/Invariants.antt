-- No line so far names a content coding.
use Rattle.std.proofs.Common.{◌≡◌, false, take, codes}
use Rattle.std.specs.Prelude.{◌&&◌}
use Rattle.std.specs.List.{list_any}
use Rattle.httparse.specs.Spans.{header_bytes}
use Rattle.sc_model.specs.Heads.{is_coding}
use Rattle.sc_http.specs.Lines.{is_named}
use Rattle.sc_http.proofs.lines.is_encoded.Given as goal

abbrev pub invariant-loop-line : goal.invariant-loop-line
invariant-loop-line l =
    list_any (λ line. is_named (codes "content-encoding") (header_bytes l.head line) && is_coding (header_bytes l.head line).1)
    (take l.line-index l.lines) ≡ false
