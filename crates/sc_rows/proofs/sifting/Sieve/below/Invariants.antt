-- The rows that were passed are cleared.
use Rattle.std.proofs.Common.{◌≡◌, ◌<◌, ℕ, not, length, take, slice_get, Some}
use Rattle.sc_rows.specs.Joining.{has_row}
use Rattle.sc_rows.proofs.sifting.Sieve.below.Given as goal

abbrev pub invariant-loop-row : goal.invariant-loop-row
invariant-loop-row l = record {
  as_long : length l.absent ≡ l.end;
  marks : (row : ℕ) → row < l.end → slice_get l.absent row ≡ Some (not (has_row (take l.row-index l.rows) row));
}
