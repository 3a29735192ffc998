-- When two changes are the same, part by part.
use Rattle.std.specs.Prelude.{Bool, false, ◌&&◌, nat_eq}
use Rattle.std.specs.Ordering.{int_eq}
use Rattle.std.specs.Str.{bytes_eq}
use Rattle.std.specs.Cmp.Lexicographic.{pointwise}
use Rattle.sc_record.specs.declared.slice.SubSlice.{SubSlice}
use Rattle.sc_cluster.specs.declared.plan.SplitPlan.{SplitPlan}
use Rattle.sc_opening.specs.declared.change.Change.{Change}
use Rattle.sc_opening.specs.declared.change.Change.TheVariants as change

-- the slices that two splits make have the same id, name, range and place
abbrev pub same_sub : SubSlice → SubSlice → Bool
same_sub one other =
    nat_eq one.id.0 other.id.0 && bytes_eq one.name other.name && int_eq one.min other.min && int_eq one.max other.max
    && nat_eq one.replicas other.replicas && nat_eq one.node other.node

-- the splits have the same parent, and make the same slices in the same order
abbrev pub same_plan : SplitPlan → SplitPlan → Bool
same_plan one other = nat_eq one.parent.0 other.parent.0 && pointwise same_sub one.subs other.subs

-- the changes are the same: both are the same split, or drop the same slice
abbrev pub same_change : Change → Change → Bool
same_change (change.Switched plan) (change.Switched other) = same_plan plan other
same_change (change.Dropped slice) (change.Dropped other) = nat_eq slice.0 other.0
same_change _ _ = false
