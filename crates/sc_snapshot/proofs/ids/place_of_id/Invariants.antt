-- The live rows before the low place are below the id, those from the high place on are above it, and there were so many comparisons.
use Rattle.std.proofs.Common.{◌+◌, ◌-◌, ◌*◌, ◌^◌, ◌≤◌, length}
use Rattle.sc_snapshot.proofs.IdSearchLemmas.{AreLower, AreHigher}
use Rattle.sc_snapshot.proofs.ids.place_of_id.Given as goal

abbrev pub invariant-halving : goal.invariant-halving
invariant-halving g l = record {
  in_order : l.low ≤ l.high;
  within : l.high ≤ length l.live;
  lower : AreLower l.rows l.live l.id l.low;
  higher : AreHigher l.rows l.live l.id l.high;
  counted : l.initial.steps ≤ l.steps;
  halved : 2 ^ (l.steps - l.initial.steps) * (l.high - l.low) ≤ length l.live;
  bound : 2 ^ (l.steps - l.initial.steps) ≤ 2 * length l.live + 1;
}

abbrev pub decreases-halving : goal.decreases-halving
decreases-halving g l = l.high - l.low
