-- What was found of two terms stands side by side, or the left one alone where nothing of the right one changes it.
use Rattle.std.proofs.Common.{◌-◌, arith}
use Rattle.sc_eval.specs.Criteria.{Criterion}
use Rattle.sc_eval.proofs.StepLemmas.{both-leaves, both-found, left-found}
use Rattle.sc_eval.proofs.matching.unjoined_pair.Goals as goal

pub returns-then-stays_empty-clause-numbers : goal.returns-then-stays_empty-clause-numbers
returns-then-stays_empty-clause-numbers g c =
    left-found c.args.snapshot.now.rows c.args.pair.how (Criterion.Leaf c.args.pair.left.now.term) (Criterion.Leaf c.args.pair.right.now.term)
    c.numbers_with-left.result c.numbers_with-left.ensures.numbers (c.stays_empty.ensures c.if-stays_empty.true)

pub returns-then-stays_empty-clause-bound : goal.returns-then-stays_empty-clause-bound
returns-then-stays_empty-clause-bound g c =
    both-leaves c.args.snapshot.now.rows c.args.pair.how (Criterion.Leaf c.args.pair.left.now.term) (Criterion.Leaf c.args.pair.right.now.term)
    (c.numbers_with-left.new.steps - c.args.steps.now) 0 (c.numbers_with-left.new.steps - c.args.steps.now) (omega arith)
    c.numbers_with-left.ensures.bound (λ most enough. omega arith)

pub returns-clause-numbers : goal.returns-clause-numbers
returns-clause-numbers g c =
    both-found c.args.snapshot.now.rows c.args.pair.how (Criterion.Leaf c.args.pair.left.now.term) (Criterion.Leaf c.args.pair.right.now.term)
    c.numbers_with-left.result c.numbers_with-right.result c.numbers_with-left.ensures.numbers c.numbers_with-right.ensures.numbers

pub returns-clause-bound : goal.returns-clause-bound
returns-clause-bound g c =
    both-leaves c.args.snapshot.now.rows c.args.pair.how (Criterion.Leaf c.args.pair.left.now.term) (Criterion.Leaf c.args.pair.right.now.term)
    (c.numbers_with-left.new.steps - c.args.steps.now) (c.numbers_with-right.new.steps - c.numbers_with-left.new.steps)
    (c.numbers_with-right.new.steps - c.args.steps.now)
    (omega (arith, c.numbers_with-left.ensures.counted, c.numbers_with-right.ensures.counted))
    c.numbers_with-left.ensures.bound c.numbers_with-right.ensures.bound
