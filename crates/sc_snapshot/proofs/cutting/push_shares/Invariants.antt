-- So far the first cells are shared, and there is room for the others.
use Rattle.std.proofs.Common.{◌≡◌, ◌+◌, ◌≤◌, ◌++◌, length, map, take, vec_len, vec_capacity}
use Rattle.std.specs.Arc.{arc_value}
use Rattle.sc_snapshot.proofs.cutting.push_shares.Given as goal

abbrev pub invariant-loop-cell : goal.invariant-loop-cell
invariant-loop-cell l = record {
  cells : map arc_value l.list.items ≡ map arc_value l.fn.list.items ++ map arc_value (take l.cell-index l.cells);
  room : vec_len l.list + length l.cells ≤ vec_capacity l.list + l.cell-index;
}
