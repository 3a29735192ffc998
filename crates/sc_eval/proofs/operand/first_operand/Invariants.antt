-- What was passed waits, and is with what is left the whole.
use Rattle.std.proofs.Common.{◌≡◌}
use Rattle.sc_eval.specs.Criteria.{criterion_of}
use Rattle.sc_eval.specs.Operands.{criterion_with}
use Rattle.sc_eval.proofs.operand.first_operand.Given as goal

abbrev pub invariant-loop-query : goal.invariant-loop-query
invariant-loop-query l = criterion_of l.fn.query ≡ criterion_with l.waiting.items (criterion_of l.query)
