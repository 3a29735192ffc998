-- After the slices come those of the subs so far.
use Rattle.std.proofs.Common.{◌≡◌, ◌++◌, map, take}
use Rattle.sc_cluster.specs.Changes.{begun_slice}
use Rattle.sc_cluster.proofs.plan.push_subs.Given as goal

abbrev pub invariant-loop-sub : goal.invariant-loop-sub
invariant-loop-sub l = l.slices.items ≡ l.initial.slices.items ++ map begun_slice (take l.sub-index l.subs)
