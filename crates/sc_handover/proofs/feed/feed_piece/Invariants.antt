-- So far the first rows of a piece were fed, and the bucket is sound.
use Rattle.sc_bucket.specs.Sound.{IsSound}
use Rattle.sc_handover.proofs.PieceLemmas.{IsUnderWay}
use Rattle.sc_handover.proofs.feed.feed_piece.Given as goal

abbrev pub invariant-loop-row : goal.invariant-loop-row
invariant-loop-row l = record {
  sound : IsSound l.bucket;
  way : IsUnderWay l.initial.bucket l.fn.core l.at l.replica l.count l._row l.bucket;
}
