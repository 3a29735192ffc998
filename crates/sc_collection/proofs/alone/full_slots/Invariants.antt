-- The buckets so far are in slots, and there is room for those that are left.
use Rattle.std.proofs.Common.{◌≡◌, ◌+◌, ◌++◌, vec_capacity, length}
use Rattle.std.specs.Vec.Iter.{into_iter_items}
use Rattle.sc_collection.specs.Opened.{in_slots}
use Rattle.sc_collection.proofs.alone.full_slots.Given as goal

abbrev pub invariant-loop-bucket : goal.invariant-loop-bucket
invariant-loop-bucket l = record {
  count : length l.slots.items + length (into_iter_items l.bucket-iterator) ≡ length l.fn.buckets;
  room : vec_capacity l.slots ≡ length l.fn.buckets;
  items : l.slots.items ++ in_slots (into_iter_items l.bucket-iterator) ≡ in_slots l.fn.buckets;
}
