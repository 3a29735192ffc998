-- So far the first of these rows are marked.
use Rattle.std.proofs.Common.{◌≡◌, ℕ, ◌+◌, ◌-◌, ◌<◌, ◌≤◌, List, is_some, map, length, slice_get}
use Rattle.sc_record.specs.Writes.{Write}
use Rattle.sc_snapshot.specs.Surveying.{AreSurveyed}
use Rattle.sc_snapshot.proofs.survey.Survey.keep_all.Given as goal

abbrev pub invariant-loop-row : goal.invariant-loop-row
invariant-loop-row l = record {
  surveyed : (rows others : List Write) → l.old ≡ map (λ (row : Write). is_some row.doc) others → AreSurveyed rows l.number l.fn.self
      → l.number + (l.to - l.from) ≤ length rows
      → ((k : ℕ) → k < l.to - l.from → slice_get others (l.from + k) ≡ slice_get rows (l.number + k))
      → AreSurveyed rows (l.number + (l.row - l.from)) l.self;
  size : length l.self.live_bits ≡ length l.fn.self.live_bits;
  least_hash : l.self.least_hash ≡ l.fn.self.least_hash;
  greatest_hash : l.self.greatest_hash ≡ l.fn.self.greatest_hash;
}
