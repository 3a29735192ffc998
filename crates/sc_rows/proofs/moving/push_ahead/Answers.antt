-- Rows that each have a number, from a later place on.
use Rattle.sc_rows.proofs.RangeLemmas.{kept-from}
use Rattle.sc_rows.proofs.moving.push_ahead.Goals as goal

pub returns-then-to-from-clause-kept : goal.returns-then-to-from-clause-kept
returns-then-to-from-clause-kept c = λ start before kept. kept-from c.args.moved.now c.args.rows.now start c.args.to c.args.from before c.if-to-from.true kept
