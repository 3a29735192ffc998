-- In which blocks the key can still stand, and how many comparisons there were.
use Rattle.std.proofs.Common.{◌+◌, ◌-◌, ◌*◌, ◌/◌, ◌^◌, ◌≤◌, length}
use Rattle.sc_keys.specs.Searching.{IsRangeFor}
use Rattle.sc_keys.proofs.searching.block_of.Given as goal

abbrev pub invariant-halving : goal.invariant-halving
invariant-halving g l = record {
  first : l.first ≤ l.low;
  in_order : l.low ≤ l.high;
  within : l.high ≤ length l.keys.keys / 32;
  range : IsRangeFor g.K.Key.order l.keys.keys l.key (32 * l.low) (32 * l.high + 31);
  counted : l.initial.steps ≤ l.steps;
  halved : 2 ^ (l.steps - l.initial.steps) * (l.high - l.low) ≤ length l.keys.keys / 32;
  bound : 2 ^ (l.steps - l.initial.steps) ≤ 2 * (length l.keys.keys / 32) + 1;
}

abbrev pub decreases-halving : goal.decreases-halving
decreases-halving g l = l.high - l.low
