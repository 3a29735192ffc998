-- One number more.
use Rattle.std.proofs.Common.{◌+◌, refl, arith}
use Rattle.sc_rows.proofs.MovedLemmas.{run-put}
use Rattle.sc_rows.proofs.moved.with_run.Goals as goal

pub loop-at-preserved : goal.loop-at-preserved
loop-at-preserved c = record {
  items = run-put c.args.numbers.items c.loop-at.numbers.items c.push_reserved.new.self.items c.args.first c.loop-at.at (c.args.first + c.loop-at.at) c.loop-at.invariant.items c.push_reserved.ensures.items refl;
  room = omega (arith, c.push_reserved.ensures.len, c.push_reserved.ensures.capacity, c.loop-at.invariant.room);
}
