-- The values that are left are there, and what comes after them is what comes after all.
use Rattle.std.proofs.Common.{◌≡◌, ◌-◌, true}
use Rattle.std.specs.Prelude.{is_some}
use Rattle.sc_spelling.specs.Reading.{values_at, rest_of}
use Rattle.sc_spelling.proofs.known.known_skip.Given as goal

abbrev pub invariant-loop : goal.invariant-loop
invariant-loop l = (is_some (values_at l.kind (l.count - l.counter) l.rest) ≡ true) × (rest_of (values_at l.kind (l.count - l.counter) l.rest) ≡ rest_of (values_at l.kind l.count l.bytes))
