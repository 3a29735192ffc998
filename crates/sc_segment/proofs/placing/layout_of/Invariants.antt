-- The keys so far are laid out.
use Rattle.std.proofs.Common.{◌≡◌, ℕ, List, [], length, take}
use Rattle.std.specs.Map.{values_of}
use Rattle.sc_segment.specs.Placing.{ArePlaced, ends_from, rows_counted}
use Rattle.sc_segment.proofs.placing.layout_of.Given as goal

abbrev pub invariant-loop-tally : goal.invariant-loop-tally
invariant-loop-tally g l = record {
  ends : l.ends.items ≡ ends_from 0 (take l.tally-index (values_of l.keys));
  count : l.count ≡ rows_counted (take l.tally-index (values_of l.keys));
  as_long : length l.next.items ≡ length l.keys;
  begin : (rows : List ℕ) → ArePlaced 0 (take l.tally-index (values_of l.keys)) [] l.next.items rows;
}
