-- The numbers that were put so far, and room for those that are left.
use Rattle.std.proofs.Common.{◌≡◌, ◌+◌, ◌≤◌, ◌++◌, vec_len, vec_capacity}
use Rattle.std.specs.List.{range_with_len}
use Rattle.sc_rows.proofs.moved.with_run.Given as goal

abbrev pub invariant-loop-at : goal.invariant-loop-at
invariant-loop-at l = record {
  items : l.numbers.items ≡ l.fn.numbers.items ++ range_with_len l.first l.at;
  room : vec_len l.numbers + l.count ≤ vec_capacity l.numbers + l.at;
}
