-- A value less is left after each.
use Rattle.std.proofs.Common.{arith, ◌-◌}
use Rattle.sc_spelling.specs.Lent.{value_of}
use Rattle.sc_spelling.specs.Reading.{values_at, rest_of}
use Rattle.sc_spelling.proofs.LoopLemmas.{values_on, values_off, values_done}
use Rattle.sc_spelling.proofs.KnownLemmas.{value_known, values_known}
use Rattle.sc_spelling.proofs.known.known_skip.Goals as goal

pub known_value_at-requires : goal.known_value_at-requires
known_value_at-requires c = value_known c.args.kind (c.args.count - c.loop.counter) c.loop.rest.now (omega arith) c.loop.invariant.0

pub returns-in_err-after : goal.returns-in_err-after
returns-in_err-after c =
    rw c.from_residual.ensures (values_off c.args.kind c.args.count c.loop.counter c.loop.rest.now (rest_of (values_at c.args.kind c.args.count c.args.bytes.now)) c.loop-test.true c.in_err-after.ensures c.loop.invariant.1)

pub loop-preserved : goal.loop-preserved
loop-preserved c = (
  values_known c.args.kind c.args.count c.loop.counter c.loop.rest.now (value_of c.in_ok-after.field-0-0, c.in_ok-after.after.now) c.loop-test.true c.in_ok-after.ensures c.loop.invariant.0,
  values_on c.args.kind c.args.count c.loop.counter c.loop.rest.now (value_of c.in_ok-after.field-0-0, c.in_ok-after.after.now)
      (rest_of (values_at c.args.kind c.args.count c.args.bytes.now)) c.loop-test.true c.in_ok-after.ensures c.loop.invariant.1,
)

pub returns : goal.returns
returns c = values_done c.args.kind c.args.count c.loop.counter c.loop.rest.now (rest_of (values_at c.args.kind c.args.count c.args.bytes.now)) c.loop-test.false c.loop.invariant.1
