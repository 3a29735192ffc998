-- The slices so far are switched, and the others are as they were.
use Rattle.std.proofs.Common.{◌≡◌, ◌++◌, map, take, drop}
use Rattle.sc_cluster.specs.Changes.{switched_slice}
use Rattle.sc_cluster.proofs.state.replace_parent.Given as goal

abbrev pub invariant-loop-slice : goal.invariant-loop-slice
invariant-loop-slice l =
    l.slice-items ≡ map (switched_slice l.parent) (take l.slice-index l.fn.slices) ++ drop l.slice-index l.fn.slices
