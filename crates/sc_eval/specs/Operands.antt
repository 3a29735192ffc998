-- What stands to the right of the leftmost operand of a bound query, and what both ask together.
use Rattle.std.specs.Prelude.{List, [], ◌∷◌}
use Rattle.sc_rows.specs.declared.joining.Kept.{Kept}
use Rattle.sc_rows.specs.declared.joining.Kept.TheVariants.{Both, Either, LeftAlone}
use Rattle.sc_eval.specs.Criteria.{Criterion, criterion_of}
use Rattle.sc_eval.specs.declared.operand.Pair.{Pair}
use Rattle.sc_eval.specs.declared.operand.Right.{Right}
use Rattle.sc_eval.specs.declared.operand.Operand.{Operand}
use Rattle.sc_eval.specs.declared.operand.Operand.TheVariants as operands

-- the criterion that finds what is kept of the rows that two criteria find
abbrev pub joined_by : Kept → Criterion → Criterion → Criterion
joined_by Both left right = Criterion.And left right
joined_by Either left right = Criterion.Or left right
joined_by LeftAlone left right = Criterion.And left (Criterion.Not right)

-- the criterion that two terms are, joined
abbrev pub pair_criterion : Pair → Criterion
pair_criterion pair = joined_by pair.how (Criterion.Leaf pair.left.now.term) (Criterion.Leaf pair.right.now.term)

-- the criterion that an operand is
abbrev pub operand_criterion : Operand → Criterion
operand_criterion operands.All = Criterion.All
operand_criterion (operands.Leaf key) = Criterion.Leaf key.now.term
operand_criterion (operands.Not query) = Criterion.Not (criterion_of query.now)

-- the criterion that the leftmost operand is with all that waits, the innermost last
abbrev pub criterion_with : List Right → Criterion → Criterion
criterion_with [] left = left
criterion_with (one ∷ waiting) left = joined_by one.how (criterion_with waiting left) (criterion_of one.operand.now)
