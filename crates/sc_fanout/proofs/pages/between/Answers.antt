-- The places are cut to the end of the cells.
use Rattle.std.proofs.Common.{arith}
use Rattle.sc_bucket.specs.Taking.{lent}
use Rattle.sc_fanout.proofs.BetweenLemmas.{between-part}
use Rattle.sc_fanout.proofs.pages.between.Goals as goal

pub returns : goal.returns
returns c =
    between-part lent c.args.cells.now c.args.from c.args.to c.min-begin.result c.min-end.result
    (omega (arith, c.min-end.ensures)) (omega (arith, c.min-end.ensures)) (λ less. omega (arith, c.min-end.ensures, less))
    (omega (arith, c.min-begin.ensures)) (omega (arith, c.min-begin.ensures)) (λ less. omega (arith, c.min-begin.ensures, less))
