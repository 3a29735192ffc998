-- What the fields that are left say of the name is what all say.
use Rattle.std.proofs.Common.{◌≡◌}
use Rattle.sc_values.specs.Fields.{values_of}
use Rattle.sc_record.proofs.document.Doc.get.Given as goal

abbrev pub invariant-loop-field : goal.invariant-loop-field
invariant-loop-field l = values_of l.field-iterator l.name ≡ values_of l.fn.self l.name
