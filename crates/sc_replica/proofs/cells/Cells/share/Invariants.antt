-- The cells are those of which there are shares, and then those that are still to come.
use Rattle.std.proofs.Common.{◌≡◌, ◌++◌, map}
use Rattle.std.specs.Arc.{arc_value}
use Rattle.std.specs.VecDeque.Iter.{deque_iter_rest}
use Rattle.sc_replica.proofs.cells.Cells.share.Given as goal

abbrev pub invariant-loop-cell : goal.invariant-loop-cell
invariant-loop-cell l =
    l.self.writes ≡ map arc_value l.shares.items ++ map arc_value (deque_iter_rest l.cell-iterator)
