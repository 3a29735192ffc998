-- So far the first cells are put at the end, the last of them in a piece that is not done.
use Rattle.std.proofs.Common.{◌≡◌, ◌++◌, map}
use Rattle.std.specs.Arc.{arc_value}
use Rattle.sc_snapshot.proofs.cutting.cut_many.Given as goal

abbrev pub invariant-loop-cell : goal.invariant-loop-cell
invariant-loop-cell l = record {
  rows : l.pieces ++ map arc_value l.piece.items ≡ l.fn.pieces ++ map arc_value l.yielded;
  left : l.yielded ++ l.cell-iterator.rest.items ≡ l.fn.cells.items;
}
