-- What was carried is the index of the new rows.
use Rattle.std.proofs.Common.{sym, subst}
use Rattle.sc_snapshot.specs.Postings.{IsIndexed}
use Rattle.sc_snapshot.proofs.index.Index.next.Goals as goal

pub returns : goal.returns
returns c = λ old before told alone.
    let rows = c.args.new.now in
    subst (IsIndexed rows) (sym c.in_ok-shared.ensures) (record {
      terms = c.in_ok-segment.ensures old rows told before.terms;
      ids = c.in_ok-whole.ensures old before.ids alone;
      survey = c.requires.survey;
    })
