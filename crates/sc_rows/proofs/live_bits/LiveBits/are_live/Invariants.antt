-- The rows that were passed are live, and words have 64 bits.
use Rattle.std.proofs.Common.{◌≡◌, ℕ, ◌-◌, ◌^◌, ◌<◌, ◌≤◌, true, slice_get, slice_index, Some}
use Rattle.sc_rows.proofs.live_bits.LiveBits.are_live.Given as goal

abbrev pub invariant-looking : goal.invariant-looking
invariant-looking l = record {
  live : (other : ℕ) → l.from ≤ other → other < l.row → slice_get l.self other ≡ Some true;
  first : l.from ≤ l.row;
  last : l.row ≤ l.to;
  fits : (place : ℕ) → slice_index l.words place < 2 ^ 64;
}

abbrev pub decreases-looking : goal.decreases-looking
decreases-looking l = l.to - l.row
