-- So far the rows share the first cells.
use Rattle.std.proofs.Common.{◌≡◌, map, take}
use Rattle.std.specs.Arc.{arc_value}
use Rattle.sc_snapshot.proofs.snapshot.Snapshot.of.Given as goal

abbrev pub invariant-loop-cell : goal.invariant-loop-cell
invariant-loop-cell l = map arc_value l.rows.items ≡ map arc_value (take l.cell-index l.cells)
