-- The names from the place on come after this one.
use Rattle.std.proofs.Common.{◌≡◌, ◌≤◌, length, drop}
use Rattle.std.specs.Cmp.Lexicographic.{slice_cmp}
use Rattle.std.specs.List.{AllByRecursion}
use Rattle.std.specs.Ordering.{nat_cmp}
use Rattle.std.specs.declared.cmp.Ordering.TheVariants.{Less}
use Rattle.sc_schema.specs.Raw.{raw_names}
use Rattle.sc_json.proofs.flat.place_of.Given as goal

abbrev pub invariant-loop-at : goal.invariant-loop-at
invariant-loop-at l =
    (l.at ≤ length l.fields) × AllByRecursion (λ other. slice_cmp nat_cmp l.name other ≡ Less) (drop l.at (raw_names l.fields))

abbrev pub decreases-loop-at : goal.decreases-loop-at
decreases-loop-at l = l.at
