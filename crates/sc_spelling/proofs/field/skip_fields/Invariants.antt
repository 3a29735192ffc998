-- What comes after the fields that are left is what comes after all.
use Rattle.std.proofs.Common.{◌≡◌, ◌-◌, []}
use denote.Shadow.{shadow}
use denote.Text.{Utf8}
use Rattle.sc_spelling.specs.Reading.{fields_at, rest_of}
use Rattle.sc_spelling.proofs.field.skip_fields.Given as goal

abbrev pub invariant-loop : goal.invariant-loop
invariant-loop l = shadow (Utf8 l.before) × (rest_of (fields_at l.before (l.count - l.counter) l.rest) ≡ rest_of (fields_at [] l.count l.bytes))
