-- So far one was split off each, and there is room for the others.
use Rattle.std.proofs.Common.{◌≡◌, length, vec_capacity}
use Rattle.sc_shared.specs.PassCalls.{ArePassesSplit}
use Rattle.sc_shared.proofs.passes.split_each.Given as goal

abbrev pub invariant-loop-b : goal.invariant-loop-b
invariant-loop-b l = record {
  room : vec_capacity l.others ≡ length l.locks.items;
  split : ArePassesSplit l.b l.locks.items l.fn.passes.items l.passes.items l.others.items;
}
