-- Of the rows that were passed those that pass the sieve are counted.
use Rattle.std.proofs.Common.{◌≡◌, ◌≤◌, ℕ, List, take, length}
use Rattle.sc_rows.specs.Sifting.{IsSieve, sifted}
use Rattle.sc_rows.proofs.sifting.Sieve.count.Given as goal

abbrev pub invariant-loop-row : goal.invariant-loop-row
invariant-loop-row l = record {
  counted : (others : List ℕ) → IsSieve others l.self → l.count ≡ length (sifted others l.wanted (take l.row-index l.rows));
  within : l.count ≤ l.row-index;
}
