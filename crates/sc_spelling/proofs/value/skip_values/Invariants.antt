-- What comes after the values that are left is what comes after all.
use Rattle.std.proofs.Common.{◌≡◌, ◌-◌}
use Rattle.sc_spelling.specs.Reading.{values_at, rest_of}
use Rattle.sc_spelling.proofs.value.skip_values.Given as goal

abbrev pub invariant-loop : goal.invariant-loop
invariant-loop l = rest_of (values_at l.kind (l.count - l.counter) l.rest) ≡ rest_of (values_at l.kind l.count l.bytes)
