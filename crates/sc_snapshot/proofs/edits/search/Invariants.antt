-- The rows before the low place are below the id, and those from the high place on are above it.
use Rattle.std.proofs.Common.{◌-◌, ◌≤◌, take, drop, length}
use Rattle.sc_snapshot.specs.Edits.{AreBelow, AreAbove}
use Rattle.sc_snapshot.proofs.edits.search.Given as goal

abbrev pub invariant-halving : goal.invariant-halving
invariant-halving l = record {
  from : l.from ≤ l.low;
  order : l.low ≤ l.high;
  high : l.high ≤ length l.rows;
  below : AreBelow l.id (take l.low l.rows);
  above : AreAbove l.id (drop l.high l.rows);
}

abbrev pub decreases-halving : goal.decreases-halving
decreases-halving l = l.high - l.low
