-- The values so far, and then those of the list that is left.
use Rattle.std.proofs.Common.{◌≡◌, ◌++◌, drop, option_map}
use Rattle.sc_schema.specs.Values.{values_in}
use Rattle.sc_schema.proofs.values.values_in.Given as goal

abbrev pub invariant-loop-one : goal.invariant-loop-one
invariant-loop-one l =
    values_in l.kind l.list ≡ option_map (λ more. l.values ++ more) (values_in l.kind (drop l.one-index l.list))
