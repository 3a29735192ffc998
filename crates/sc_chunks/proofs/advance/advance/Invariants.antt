-- What was taken so far leads to the place.
use Rattle.std.proofs.Common.{◌≤◌, ◌+◌, ◌-◌, ◌++◌, List, ℕ, length, take}
use Rattle.sc_chunks.specs.Coding.{coding_limit}
use Rattle.sc_chunks.specs.Progress.{ReachesPlace}
use Rattle.sc_chunks.proofs.advance.advance.Given as goal

abbrev pub invariant-loop-at : goal.invariant-loop-at
invariant-loop-at l = record {
  within : l.at ≤ length l.bytes;
  reached : (coded : List ℕ) → ReachesPlace coded l.fn.content.items l.fn.place → length coded + length l.bytes ≤ coding_limit
      → ReachesPlace (coded ++ take l.at l.bytes) l.content.items l.place;
}

abbrev pub decreases-loop-at : goal.decreases-loop-at
decreases-loop-at l = length l.bytes - l.at
