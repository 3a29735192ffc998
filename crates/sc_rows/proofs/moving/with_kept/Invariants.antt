-- The new numbers of the rows that were passed, one for each, and room for those that are left.
use Rattle.std.proofs.Common.{◌≡◌, ◌+◌, ◌≤◌, ◌++◌, length, take, vec_len, vec_capacity}
use Rattle.sc_rows.specs.Moving.{new_numbers}
use Rattle.sc_rows.proofs.moving.with_kept.Given as goal

abbrev pub invariant-loop-at : goal.invariant-loop-at
invariant-loop-at l = record {
  items : l.list.items ≡ l.fn.list.items ++ new_numbers l.moved (take l.at l.rows);
  room : vec_len l.list + length l.rows ≤ vec_capacity l.list + l.at;
  capacity : vec_capacity l.list ≡ vec_capacity l.fn.list;
  len : vec_len l.list ≡ vec_len l.fn.list + l.at;
}
