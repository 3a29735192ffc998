-- So far the subs have their searchers.
use Rattle.std.proofs.Common.{◌≡◌, ◌++◌, map, take}
use Rattle.sc_cluster.specs.declared.slice.Slice.{Slice}
use Rattle.sc_cluster.specs.Slices.{forming}
use Rattle.sc_replicas.specs.Searchers.{standing_of}
use Rattle.sc_bucket.specs.Searchers.{cut_to}
use Rattle.sc_bucket.proofs.spares.push_subs.Given as goal

abbrev pub invariant-loop-at : goal.invariant-loop-at
invariant-loop-at l =
    map standing_of l.handed.items
    ≡ map standing_of l.initial.handed.items ++ map (λ (sub : Slice). cut_to sub (standing_of l.searcher)) (forming (take l.at l.slices))
