-- The greater of the two first numbers is in both ranges.
use Rattle.std.proofs.Common.{◌≤ℤ◌, arith}
use Rattle.std.proofs.lemmas.Int.{ints}
use Rattle.sc_hash.proofs.RangeLemmas.{Meets-overlap}
use Rattle.sc_hash.proofs.range.Range.meets.Goals as goal

pub returns-then-self-other : goal.returns-then-self-other
returns-then-self-other c =
    let one = c.args.self.now in
    let other = c.args.other.now in
    let left : one.min ≤ℤ other.max = grind (arith, ints) in (
      λ t. let right : other.min ≤ℤ one.max = grind (arith, ints) in Meets-overlap _ _ _ _ one.ordered other.ordered left right,
      λ m. grind (arith, ints),
    )
