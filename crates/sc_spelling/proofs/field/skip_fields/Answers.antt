-- A field less is left after each, and none where there was none.
use Rattle.std.proofs.Common.{[], rules}
use Rattle.sc_spelling.specs.Lent.{field_of}
use Rattle.sc_spelling.specs.Reading.{fields_at, rest_of}
use Rattle.sc_spelling.proofs.LoopLemmas.{fields_on, fields_off, fields_done}
use Rattle.sc_spelling.proofs.field.skip_fields.Goals as goal

pub returns-in_err-field : goal.returns-in_err-field
returns-in_err-field c =
    rw c.from_residual.ensures (fields_off c.loop.before.now c.args.count c.loop.counter c.loop.rest.now (rest_of (fields_at [] c.args.count c.args.bytes.now)) c.loop-test.true c.in_err-field.ensures c.loop.invariant.1)

pub loop-preserved : goal.loop-preserved
loop-preserved c = (
  search rules,
  fields_on c.loop.before.now c.args.count c.loop.counter c.loop.rest.now (field_of c.in_ok-field.field, c.in_ok-field.after.now)
      (rest_of (fields_at [] c.args.count c.args.bytes.now)) c.loop-test.true c.in_ok-field.ensures c.loop.invariant.1,
)

pub returns : goal.returns
returns c = fields_done c.loop.before.now c.args.count c.loop.counter c.loop.rest.now (rest_of (fields_at [] c.args.count c.args.bytes.now)) c.loop-test.false c.loop.invariant.1
