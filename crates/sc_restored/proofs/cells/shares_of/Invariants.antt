-- So far there are shares of the first cells.
use Rattle.std.proofs.Common.{◌≡◌, map, take}
use Rattle.std.specs.Arc.{arc_value}
use Rattle.sc_snapshot.specs.Rows.{lent}
use Rattle.sc_restored.proofs.cells.shares_of.Given as goal

abbrev pub invariant-loop-cell : goal.invariant-loop-cell
invariant-loop-cell l = map arc_value l.shares.items ≡ map lent (take l.cell-index l.cells)
