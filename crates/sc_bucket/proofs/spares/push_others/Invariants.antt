-- So far those of the other slices have their shares.
use Rattle.std.proofs.Common.{◌≡◌, ◌++◌, map, filter, take}
use Rattle.sc_replicas.specs.Searchers.{standing_of}
use Rattle.sc_bucket.proofs.SpareLemmas.{is_other}
use Rattle.sc_bucket.proofs.spares.push_others.Given as goal

abbrev pub invariant-loop-searcher : goal.invariant-loop-searcher
invariant-loop-searcher l =
    map standing_of l.handed.items
    ≡ map standing_of l.initial.handed.items ++ filter (is_other l.parent) (map standing_of (take l.searcher-index l.searchers))
