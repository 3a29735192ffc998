-- So far the first searchers.
use Rattle.std.proofs.Common.{take, All}
use Rattle.sc_snapshot.specs.Rows.{AreRows}
use Rattle.sc_replicas.specs.declared.standing.Searcher.{Searcher}
use Rattle.sc_replicas.specs.Searchers.{searcher_rows}
use Rattle.sc_fanout.proofs.searching.rows_of.Given as goal

abbrev pub invariant-loop-searcher : goal.invariant-loop-searcher
invariant-loop-searcher l = All (λ (searcher : Searcher). AreRows (searcher_rows searcher)) (take l.searcher-index l.searchers)
