-- So far no slice is active.
use Rattle.std.proofs.Common.{take, drop}
use Rattle.sc_bucket.specs.Searchers.{NoneIsActive}
use Rattle.sc_bucket.proofs.bucket.Bucket.searcher.Given as goal

abbrev pub invariant-loop-at : goal.invariant-loop-at
invariant-loop-at l = NoneIsActive (drop l.from (take l.at l.self.map))
