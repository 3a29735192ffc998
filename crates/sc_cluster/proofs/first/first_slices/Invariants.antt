-- So far each slice is the one of its place.
use Rattle.std.proofs.Common.{◌≡◌, ℕ, Some, slice_get, length}
use Rattle.sc_cluster.specs.declared.slice.Slice.{Slice}
use Rattle.sc_cluster.specs.Map.{IsFirst}
use Rattle.sc_cluster.proofs.first.first_slices.Given as goal

abbrev pub invariant-loop-i : goal.invariant-loop-i
invariant-loop-i l = record {
  count : length l.slices.items ≡ l.i;
  each : (i : ℕ) (slice : Slice) → slice_get l.slices.items i ≡ Some slice → IsFirst l.shards l.replicas l.nodes i slice;
}
