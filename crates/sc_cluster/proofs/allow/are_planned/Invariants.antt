-- So far each sub is the planned one.
use Rattle.std.proofs.Common.{◌≡◌, ◌<◌, ℕ, Some, slice_get}
use Rattle.sc_record.specs.declared.slice.SubSlice.{SubSlice}
use Rattle.sc_cluster.specs.Plans.{IsPlanned}
use Rattle.sc_cluster.proofs.allow.are_planned.Given as goal

abbrev pub invariant-loop-i : goal.invariant-loop-i
invariant-loop-i l = (j : ℕ) (sub : SubSlice) → j < l.i → slice_get l.subs j ≡ Some sub → IsPlanned l.parent l.greatest j sub
