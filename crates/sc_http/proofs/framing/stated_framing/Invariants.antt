-- No line so far states the framing.
use Rattle.std.proofs.Common.{◌≡◌, false, take}
use Rattle.std.specs.List.{list_any}
use Rattle.httparse.specs.Spans.{header_bytes}
use Rattle.sc_model.specs.Heads.{is_framing}
use Rattle.sc_http.proofs.framing.stated_framing.Given as goal

abbrev pub invariant-loop-i : goal.invariant-loop-i
invariant-loop-i l = list_any (λ line. is_framing (header_bytes l.head line)) (take l.i l.lines) ≡ false
