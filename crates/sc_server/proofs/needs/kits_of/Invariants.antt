-- So far so many workers have what they need, and off the passes those of the others can be split.
use Rattle.std.proofs.Common.{◌≡◌, ◌-◌, length, vec_capacity}
use Rattle.std.specs.List.{All}
use Rattle.sc_shared.specs.Passes.{CanSplit}
use Rattle.sc_server.specs.Needs.{AreNew, IsKit}
use Rattle.sc_server.proofs.needs.kits_of.Given as goal

abbrev pub invariant-loop : goal.invariant-loop
invariant-loop l = record {
  room : vec_capacity l.kits ≡ l.workers;
  count : length l.kits.items ≡ l.counter;
  new : AreNew l.collection l.passes;
  splits : CanSplit (l.workers - l.counter) l.passes;
  kits : All (IsKit l.collection) l.kits.items;
}
