-- Where the first values are too long, so are all.
use Rattle.std.proofs.Common.{arith}
use Rattle.sc_spelling.specs.Spellings.{spelling_of_value}
use Rattle.sc_spelling.proofs.LengthLemmas.{length-flat_map_so_far}
use Rattle.sc_spelling.proofs.length.values_len.Goals as goal

pub returns-in_err-sum : goal.returns-in_err-sum
returns-in_err-sum c =
    let long = length-flat_map_so_far spelling_of_value c.args.values.now c.loop-value.value-index _ _ c.loop-value-test.true c.value-item.is in
    rw c.from_residual.ensures (omega (arith, long, c.loop-value.invariant, c.value_len.ensures, c.in_err-sum.ensures))
