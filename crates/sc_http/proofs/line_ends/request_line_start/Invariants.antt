-- The bytes so far end no line of the head.
use Rattle.std.proofs.Common.{◌≡◌, ◌≤◌, ◌+◌, ◌-◌, length, drop}
use Rattle.std.specs.List.{prefix_len}
use Rattle.httparse.specs.Pieces.{is_newline}
use Rattle.sc_http.proofs.line_ends.request_line_start.Given as goal

abbrev pub invariant-loop-start : goal.invariant-loop-start
invariant-loop-start l = record {
  within : l.start ≤ length l.bytes;
  skipped : prefix_len is_newline l.bytes ≡ l.start + prefix_len is_newline (drop l.start l.bytes);
}

abbrev pub decreases-loop-start : goal.decreases-loop-start
decreases-loop-start l = length l.bytes - l.start
