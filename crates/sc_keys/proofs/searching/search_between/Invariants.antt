-- Where the key can still stand, and how many comparisons there were.
use Rattle.std.proofs.Common.{◌+◌, ◌-◌, ◌*◌, ◌^◌, ◌≤◌, length}
use Rattle.sc_keys.specs.Searching.{IsRangeFor}
use Rattle.sc_keys.proofs.searching.search_between.Given as goal

abbrev pub invariant-halving : goal.invariant-halving
invariant-halving g l = record {
  from : l.from ≤ l.low;
  in_order : l.low ≤ l.high;
  within : l.high ≤ length l.keys.keys;
  range : IsRangeFor g.K.Key.order l.keys.keys l.key l.low l.high;
  counted : l.initial.steps ≤ l.steps;
  halved : 2 ^ (l.steps - l.initial.steps) * (l.high - l.low) ≤ l.to - l.from;
  bound : 2 ^ (l.steps - l.initial.steps) ≤ 2 * (l.to - l.from) + 1;
}

abbrev pub decreases-halving : goal.decreases-halving
decreases-halving g l = l.high - l.low
