-- The line ends so far are counted, and fewer than are wanted.
use Rattle.std.proofs.Common.{◌≡◌, ◌<◌, ◌==◌, take}
use Rattle.std.specs.List.{count_by}
use Rattle.sc_http.proofs.line_ends.end_of_line.Given as goal

abbrev pub invariant-loop-i : goal.invariant-loop-i
invariant-loop-i l = record {
  counted : l.ended ≡ count_by (λ b. b == 10) (take l.i l.byte-items);
  fewer : l.ended < l.number;
}
