-- The next entry commits, or the place stays.
use Rattle.std.proofs.Common.{◌∙◌, sym, ap, arith}
use Rattle.std.proofs.lemmas.List.{take_all}
use Rattle.sc_journal.specs.Committed.{last_commit}
use Rattle.sc_restored.proofs.CommitPlaceLemmas.{commit_next, other_next}
use Rattle.sc_restored.proofs.searchers.place_of_commit.Goals as goal
use Rattle.sc_restored.proofs.searchers.place_of_commit.Goals.{then-commits, else-commits}

pub loop-place-preserved : goal.loop-place-preserved
loop-place-preserved c =
    let entries = c.args.entries.now in
    let one = c.index-entries-place.result in
    elim c.if-commits.branch [
      | then-commits w ↦
          w.last-is ∙ commit_next entries c.loop-place.place one c.loop-place-test.true c.index-entries-place.is (sym c.commits.ensures ∙ w.if-commits.true)
      | else-commits w ↦
          w.last-is
          ∙ other_next entries c.loop-place.place c.loop-place.last one c.loop-place-test.true c.index-entries-place.is
          (sym c.commits.ensures ∙ w.if-commits.false) c.loop-place.invariant
    ]

pub returns : goal.returns
returns c =
    c.loop-place.invariant ∙ ap last_commit (take_all c.loop-place.place c.args.entries.now (omega (arith, c.loop-place-test.false)))
