-- Where the first fields are too long, so are all.
use Rattle.std.proofs.Common.{arith}
use Rattle.sc_spelling.specs.Spellings.{spelling_of_field}
use Rattle.sc_spelling.proofs.LengthLemmas.{length-flat_map_so_far}
use Rattle.sc_spelling.proofs.length.fields_len.Goals as goal

pub returns-in_err-field_len : goal.returns-in_err-field_len
returns-in_err-field_len c =
    let long = length-flat_map_so_far spelling_of_field c.args.fields.now c.loop-field.field-index _ _ c.loop-field-test.true c.field-item.is in
    rw c.from_residual.ensures (omega (arith, long, c.in_err-field_len.ensures))

pub returns-in_err-sum : goal.returns-in_err-sum
returns-in_err-sum c =
    let long = length-flat_map_so_far spelling_of_field c.args.fields.now c.loop-field.field-index _ _ c.loop-field-test.true c.field-item.is in
    rw c.from_residual-in_err-sum.ensures (omega (arith, long, c.loop-field.invariant, c.in_ok-field_len.ensures, c.in_err-sum.ensures))
