-- So far the first ones have rows of their own ranges alone.
use Rattle.std.proofs.Common.{All, take}
use Rattle.sc_replicas.specs.Searchers.{HasOwnRows}
use Rattle.sc_replicas.proofs.standing.have_own_rows.Given as goal

abbrev pub invariant-loop-searcher : goal.invariant-loop-searcher
invariant-loop-searcher l = All HasOwnRows (take l.searcher-index l.searchers)
