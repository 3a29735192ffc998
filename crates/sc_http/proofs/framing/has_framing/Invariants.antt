-- No line so far states the framing.
use Rattle.std.proofs.Common.{◌≡◌, false, take}
use Rattle.std.specs.List.{list_any}
use Rattle.httparse.specs.Spans.{header_bytes}
use Rattle.sc_model.specs.Heads.{is_framing}
use Rattle.sc_http.proofs.framing.has_framing.Given as goal

abbrev pub invariant-loop-line : goal.invariant-loop-line
invariant-loop-line l = list_any (λ line. is_framing (header_bytes l.head line)) (take l.line-index l.lines) ≡ false
