-- The slices so far are in recovery, and the others are as they were.
use Rattle.std.proofs.Common.{◌≡◌, ◌++◌, map, take, drop}
use Rattle.sc_cluster.specs.Changes.{recovering_slice}
use Rattle.sc_cluster.proofs.state.start_recovery.Given as goal

abbrev pub invariant-loop-slice : goal.invariant-loop-slice
invariant-loop-slice l =
    l.slice-items ≡ map recovering_slice (take l.slice-index l.fn.slices) ++ drop l.slice-index l.fn.slices
