-- The posting list of a term has the numbers of the rows that a leaf finds.
use Rattle.std.proofs.Common.{◌-◌, arith}
use Rattle.sc_eval.proofs.OperandLemmas.{leaf-numbers}
use Rattle.sc_eval.proofs.StepLemmas.{one-leaf}
use Rattle.sc_eval.proofs.matching.numbers_with.Goals as goal

pub returns-clause-numbers : goal.returns-clause-numbers
returns-clause-numbers g c =
    leaf-numbers c.args.key.now.term c.args.snapshot.now.rows c.postings.result.now c.requires
    c.postings.ensures.members c.postings.ensures.ascending

pub returns-clause-bound : goal.returns-clause-bound
returns-clause-bound g c = λ most enough.
    let one = one-leaf c.args.snapshot.now.rows (c.postings.new.steps - c.args.steps.now) most c.postings.ensures.bound enough in
    omega (arith, one)
