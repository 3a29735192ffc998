-- So far the first rows are surveyed.
use Rattle.std.proofs.Common.{◌≡◌, All, map, take, length}
use Rattle.std.specs.Prelude.{◌≤ℤ◌}
use Rattle.std.specs.Arc.{arc_value}
use Rattle.sc_record.specs.Writes.{Write}
use Rattle.sc_snapshot.specs.Surveying.{AreSurveyed}
use Rattle.sc_snapshot.proofs.survey.Survey.of.Given as goal

abbrev pub invariant-loop-row : goal.invariant-loop-row
invariant-loop-row l = record {
  surveyed : AreSurveyed (map arc_value l.rows) l.row-index l.survey;
  size : length l.survey.live_bits ≡ length l.rows;
  hashes : All (λ (row : Write). (l.survey.least_hash ≤ℤ row.hash) × (row.hash ≤ℤ l.survey.greatest_hash)) (map arc_value (take l.row-index l.rows));
  number : l.number ≡ l.row-index;
}
