-- The copies and the fields that are left are all fields.
use Rattle.std.proofs.Common.{◌≡◌, ◌++◌}
use Rattle.sc_spelling.proofs.field.Fields.to_fields.Given as goal

abbrev pub invariant-loop-field : goal.invariant-loop-field
invariant-loop-field l = l.copies ++ l.field-iterator ≡ l.fn.self
