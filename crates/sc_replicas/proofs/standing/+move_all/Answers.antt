-- Where the snapshot of one has a second owner each searcher is as it was.
use Rattle.std.proofs.Common.{◌≡◌, List, ◌∷◌, Global, sym, ap, ◌∙◌}
use Rattle.std.specs.Arc.{arc_with_value}
use Rattle.std.specs.declared.sync.Arc.{Arc}
use Rattle.sc_snapshot.specs.Rows.{SnapshotState}
use Rattle.sc_replicas.specs.declared.standing.Standing.{Standing}
use Rattle.sc_replicas.proofs.standing.+move_all.Goals as goal

pub returns-else-are_moved-clause-kept : goal.returns-else-are_moved-clause-kept
returns-else-are_moved-clause-kept t c = λ fails.
    let first = c.in-Some.first.now in
    let later = c.move_all-are_moved.new.searchers in
    let same : arc_with_value first.snapshot c.in-Some-get_mut.snapshot.now ≡ first.snapshot =
    ap (λ (s : SnapshotState). arc_with_value first.snapshot s) c.in-Some-get_mut.ensures.value in
    ap (λ (a : Arc SnapshotState Global). record { slice = first.slice; range = first.range; snapshot = a } ∷ later) same
    ∙ ap (λ (these : List Standing). first ∷ these) (c.move_all-are_moved.ensures.kept fails)
    ∙ sym c.in-Some.ensures.cases.0
