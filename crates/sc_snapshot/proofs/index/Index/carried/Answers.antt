-- The index has the terms of the new rows, what they are found by, and their survey.
use Rattle.std.proofs.Common.{map, sym, subst}
use Rattle.std.specs.Arc.{arc_value}
use Rattle.sc_snapshot.specs.Postings.{IsIndexed}
use Rattle.sc_snapshot.proofs.index.Index.carried.Goals as goal

pub returns : goal.returns
returns c = λ old indexed is alone.
    let rows = map arc_value c.args.rows.now in
    subst (IsIndexed rows) (sym c.in_ok-shared.ensures) (record {
      terms = c.in_ok-segment.ensures old rows is indexed.terms;
      ids = c.in_ok-whole.ensures old indexed.ids alone;
      survey = c.in_ok-survey.ensures;
    })
