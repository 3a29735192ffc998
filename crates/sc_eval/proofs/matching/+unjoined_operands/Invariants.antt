-- What was found of the left of the query, and in how many steps, while the rest waits.
use Rattle.std.proofs.Common.{◌-◌, ◌≤◌, vec_len}
use Rattle.sc_eval.specs.Criteria.{criterion_of}
use Rattle.sc_eval.proofs.OperandLemmas.{size}
use Rattle.sc_eval.proofs.StepLemmas.{IsFoundSoFar}
use Rattle.sc_eval.proofs.matching.+unjoined_operands.Given as goal

abbrev pub decreases-unjoined_operands : goal.decreases-unjoined_operands
decreases-unjoined_operands g l = size (criterion_of l.query.now)

abbrev pub invariant-loop-how : goal.invariant-loop-how
invariant-loop-how g l = record {
  far : IsFoundSoFar l.snapshot.rows (criterion_of l.fn.query) l.waiting.items l.found (l.steps - l.fn.steps);
  counted : l.fn.steps ≤ l.steps;
}

abbrev pub decreases-loop-how : goal.decreases-loop-how
decreases-loop-how g l = vec_len l.waiting
