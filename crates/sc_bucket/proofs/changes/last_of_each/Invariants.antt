-- What is taken, and then the last of each run of the latest cell and those that are still to come, are the last of each run of all.
use Rattle.std.proofs.Common.{◌≡◌, ◌++◌, map, drop}
use Rattle.std.specs.Arc.{arc_value}
use Rattle.sc_snapshot.specs.Rows.{lent}
use Rattle.sc_bucket.proofs.ChangesLemmas.{last_of_runs}
use Rattle.sc_bucket.proofs.changes.last_of_each.Given as goal

abbrev pub invariant-loop-cell : goal.invariant-loop-cell
invariant-loop-cell l =
    map lent l.changes.items ++ last_of_runs (arc_value l.latest) (map lent (drop l.cell-index l.rest)) ≡ last_of_runs (arc_value l.initial.latest) (map lent l.rest)
