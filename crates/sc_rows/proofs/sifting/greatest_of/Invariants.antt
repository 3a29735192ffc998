-- The last row is not above the greatest of those that were read.
use Rattle.std.proofs.Common.{◌≤◌, ◌-◌, length, slice_index}
use Rattle.sc_rows.proofs.sifting.greatest_of.Given as goal

abbrev pub invariant-reading : goal.invariant-reading
invariant-reading l = slice_index l.rows (length l.rows - 1) ≤ l.greatest

abbrev pub decreases-reading : goal.decreases-reading
decreases-reading l = length l.rows - l.at
