-- So far the first rows are told, and those of the range are among the cells.
use Rattle.std.proofs.Common.{◌≡◌, filter, length, map, take}
use Rattle.std.specs.Arc.{arc_value}
use Rattle.sc_snapshot.specs.Change.{IsChange}
use Rattle.sc_snapshot.specs.Rows.{is_within}
use Rattle.sc_snapshot.proofs.part.Part.of.Given as goal

abbrev pub invariant-loop-row : goal.invariant-loop-row
invariant-loop-row l = record {
  cells : map arc_value l.part.cells.items ≡ filter (is_within l.range) (take l.row l.rows);
  change : IsChange l.rows (filter (is_within l.range) l.rows) l.row (length l.part.cells.items) l.part.change;
}
