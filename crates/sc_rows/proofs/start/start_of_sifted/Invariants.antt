-- Of the rows that were passed those are kept that pass the sieve, and no more than are asked for.
use Rattle.std.proofs.Common.{◌≡◌, ◌≤◌, ◌-◌, ℕ, List, take, length}
use Rattle.sc_rows.specs.Sifting.{IsSieve, sifted}
use Rattle.sc_rows.proofs.start.start_of_sifted.Given as goal

abbrev pub invariant-keeping : goal.invariant-keeping
invariant-keeping l = record {
  kept : (others : List ℕ) → IsSieve others l.sieve → l.kept.items ≡ sifted others l.wanted (take l.at l.rows);
  few : length l.kept.items ≤ l.most;
  passed : length l.kept.items ≤ l.at;
  within : l.at ≤ length l.rows;
}

abbrev pub decreases-keeping : goal.decreases-keeping
decreases-keeping l = length l.rows - l.at
