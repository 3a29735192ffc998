-- Those among the first slices are counted.
use Rattle.std.proofs.Common.{◌≡◌, ◌≤◌, count_by, take}
use Rattle.sc_cluster.specs.Slices.{is_inactive}
use Rattle.sc_board.proofs.restored.inactive_slices.Given as goal

abbrev pub invariant-loop-at : goal.invariant-loop-at
invariant-loop-at l = record {
  counted : l.count ≡ count_by is_inactive (take l.at l.map);
  few : l.count ≤ l.at;
}
