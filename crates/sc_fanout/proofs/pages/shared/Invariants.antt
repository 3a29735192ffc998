-- So far the first cells.
use Rattle.std.proofs.Common.{◌≡◌, map, take}
use Rattle.std.specs.Arc.{arc_value}
use Rattle.sc_bucket.specs.Taking.{lent}
use Rattle.sc_fanout.proofs.pages.shared.Given as goal

abbrev pub invariant-loop-cell : goal.invariant-loop-cell
invariant-loop-cell l = map arc_value l.docs.items ≡ map lent (take l.cell-index l.cells)
