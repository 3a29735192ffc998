-- The ranges are those that the texts that were yielded stand for, and no more than may be.
use Rattle.std.proofs.Common.{◌≡◌, ◌≤◌, ℕ, List, length, map, Some, Bor}
use Rattle.sc_hash.specs.Bounds.{bounds}
use Rattle.sc_board.specs.Splits.{most_parts}
use Rattle.sc_admin.specs.Ranges.{range_of}
use Rattle.sc_admin.proofs.ranges.ranges_of.Given as goal

abbrev pub invariant-loop-part : goal.invariant-loop-part
invariant-loop-part l = record {
  read : map Some (map bounds l.ranges) ≡ map range_of (map (λ (part : Bor (List ℕ)). part.now) l.yielded);
  few : length l.ranges ≤ most_parts;
}
