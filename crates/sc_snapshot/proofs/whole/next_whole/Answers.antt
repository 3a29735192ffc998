-- The old rows are found by their own ids alone, and so are the new ones.
use Rattle.std.proofs.Common.{not, ap, ◌∙◌}
use Rattle.sc_snapshot.proofs.IdLemmas.{alone-from}
use Rattle.sc_snapshot.proofs.whole.next_whole.Goals as goal

pub returns-then-alone : goal.returns-then-alone
returns-then-alone c = λ old found all.
    all c.if-alone.true (alone-from old c.args.whole.now (c.is_none.ensures ∙ ap not c.if-is_none.true) found)
