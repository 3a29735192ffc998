-- What a bound query asks of a document: a tree, whichever boxes hold it.
use Rattle.sc_record.specs.declared.term.Term.{Term}
use Rattle.sc_eval.specs.declared.bound.Bound.{Bound}
use Rattle.sc_eval.specs.declared.bound.Bound.TheVariants.{All as AllBound, Leaf as LeafBound, Not', And', Or'}

-- a criterion: what a bound query asks of a document
pub data Criterion : Type 0 where
  All : Criterion
  Leaf : Term → Criterion
  Not : Criterion → Criterion
  And : Criterion → Criterion → Criterion
  Or : Criterion → Criterion → Criterion

-- The criterion that a bound query is. In a pattern a box has two parts: its pointer, and what it holds.
abbrev pub criterion_of : Bound → Criterion
criterion_of AllBound = Criterion.All
criterion_of (LeafBound key) = Criterion.Leaf key.term
criterion_of (Not' p operand) = Criterion.Not (criterion_of operand)
criterion_of (And' p left q right) = Criterion.And (criterion_of left) (criterion_of right)
criterion_of (Or' p left q right) = Criterion.Or (criterion_of left) (criterion_of right)
