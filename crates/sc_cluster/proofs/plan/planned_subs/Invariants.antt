-- So far each sub is the planned one and has its range.
use Rattle.std.proofs.Common.{◌≡◌, ℕ, Some, slice_get, map, take}
use Rattle.sc_record.specs.declared.slice.SubSlice.{SubSlice}
use Rattle.sc_hash.specs.Bounds.{bounds}
use Rattle.sc_cluster.specs.Plans.{sub_bounds, IsPlanned}
use Rattle.sc_cluster.proofs.plan.planned_subs.Given as goal

abbrev pub invariant-loop-i : goal.invariant-loop-i
invariant-loop-i l = record {
  ranges : map sub_bounds l.subs.items ≡ map bounds (take l.i l.ranges);
  planned : (i : ℕ) (sub : SubSlice) → slice_get l.subs.items i ≡ Some sub → IsPlanned l.parent l.greatest i sub;
}
