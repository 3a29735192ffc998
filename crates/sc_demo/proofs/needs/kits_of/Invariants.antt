-- So far so many makers have what they need, and off the passes those of the others can be split.
use Rattle.std.proofs.Common.{◌≡◌, ◌-◌, length, vec_capacity}
use Rattle.std.specs.List.{All}
use Rattle.sc_shared.specs.Passes.{CanSplit}
use Rattle.sc_server.specs.Needs.{AreNew}
use Rattle.sc_demo.specs.Makers.{IsMakerKit}
use Rattle.sc_demo.proofs.needs.kits_of.Given as goal

abbrev pub invariant-loop : goal.invariant-loop
invariant-loop l = record {
  room : vec_capacity l.kits ≡ l.makers;
  count : length l.kits.items ≡ l.counter;
  new : AreNew l.collection l.passes;
  splits : CanSplit (l.makers - l.counter) l.passes;
  kits : All (IsMakerKit l.collection) l.kits.items;
}
