-- The fields that are left while a document is made.
use Rattle.std.specs.Prelude.{List, [], ◌∷◌, Option, Some, None}
use Rattle.sc_values.specs.declared.field.Field.{Field}
use Rattle.sc_spelling.specs.Lent.{field_of}
use Rattle.sc_spelling.specs.declared.field.FieldRef.{FieldRef}

-- the fields that are left: the next one, where there is one, and those after it
abbrev pub next_fields : Option FieldRef → List Field → List Field
next_fields None others = []
next_fields (Some field) others = field_of field ∷ others
