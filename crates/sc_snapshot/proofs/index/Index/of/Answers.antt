-- The index has the terms of the rows, what they are found by, and their survey.
use Rattle.std.proofs.Common.{map, sym, subst}
use Rattle.std.specs.Arc.{arc_value}
use Rattle.sc_snapshot.specs.Postings.{IsIndexed}
use Rattle.sc_snapshot.proofs.index.Index.of.Goals as goal

pub returns : goal.returns
returns c = subst (IsIndexed (map arc_value c.args.rows.now)) (sym c.in_ok-shared.ensures) (record {
  terms = c.in_ok-segment.ensures;
  ids = c.in_ok-whole.ensures;
  survey = c.in_ok-survey.ensures;
})
