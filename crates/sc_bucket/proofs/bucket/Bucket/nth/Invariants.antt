-- So many of the cells come after those of the slices before a place.
use Rattle.sc_bucket.proofs.ServingLemmas.{IsLeft}
use Rattle.sc_bucket.proofs.bucket.Bucket.nth.Given as goal

abbrev pub invariant-loop-at : goal.invariant-loop-at
invariant-loop-at l = IsLeft l.self l.at l.left l.i
