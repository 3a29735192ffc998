-- The cores so far are those of the first slices.
use Rattle.std.proofs.Common.{◌≡◌, ◌≤◌, ◌-◌, length, take}
use Rattle.sc_cores.specs.Cores.{cores_of_map}
use Rattle.sc_cores.proofs.naming.cores_of_map.Given as goal

abbrev pub invariant-loop-slice : goal.invariant-loop-slice
invariant-loop-slice l = record {
  within : l.at ≤ length l.map;
  cores : l.cores.items ≡ cores_of_map l.nodes (take l.at l.map);
}

abbrev pub decreases-loop-slice : goal.decreases-loop-slice
decreases-loop-slice l = length l.map - l.at
