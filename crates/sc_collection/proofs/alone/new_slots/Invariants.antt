-- So far each slot has a new bucket, and there is room for the others.
use Rattle.std.proofs.Common.{◌≡◌, vec_capacity, length}
use Rattle.sc_collection.specs.Alone.{AreNewSlots}
use Rattle.sc_collection.proofs.alone.new_slots.Given as goal

abbrev pub invariant-loop-b : goal.invariant-loop-b
invariant-loop-b l = record {
  count : length l.slots.items ≡ l._b;
  room : vec_capacity l.slots ≡ l.buckets;
  each : AreNewSlots l.first l.limit l.slots.items;
}
