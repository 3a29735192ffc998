-- A value less is left after each, and none where there was none.
use Rattle.sc_spelling.specs.Lent.{value_of}
use Rattle.sc_spelling.specs.Reading.{values_at, rest_of}
use Rattle.sc_spelling.proofs.LoopLemmas.{values_on, values_off, values_done}
use Rattle.sc_spelling.proofs.value.skip_values.Goals as goal

pub returns-in_err-after : goal.returns-in_err-after
returns-in_err-after c =
    rw c.from_residual.ensures (values_off c.args.kind c.args.count c.loop.counter c.loop.rest.now (rest_of (values_at c.args.kind c.args.count c.args.bytes.now)) c.loop-test.true c.in_err-after.ensures c.loop.invariant)

pub loop-preserved : goal.loop-preserved
loop-preserved c =
    values_on c.args.kind c.args.count c.loop.counter c.loop.rest.now (value_of c.in_ok-after.field-0-0, c.in_ok-after.after.now)
    (rest_of (values_at c.args.kind c.args.count c.args.bytes.now)) c.loop-test.true c.in_ok-after.ensures c.loop.invariant

pub returns : goal.returns
returns c = values_done c.args.kind c.args.count c.loop.counter c.loop.rest.now (rest_of (values_at c.args.kind c.args.count c.args.bytes.now)) c.loop-test.false c.loop.invariant
