-- No row stands at the numbers that were passed.
use Rattle.std.proofs.Common.{◌≡◌, drop}
use Rattle.sc_finding.specs.Hits.{rows_numbered}
use Rattle.sc_replicas.specs.Searchers.{searcher_rows}
use Rattle.sc_finding.proofs.merging.lead_at.Given as goal

abbrev pub invariant-loop-at : goal.invariant-loop-at
invariant-loop-at g l = rows_numbered (searcher_rows l.searcher) l.numbers ≡ rows_numbered (searcher_rows l.searcher) (drop l.at l.numbers)
