-- What is lent of the bytes of a document.
use Rattle.sc_values.specs.declared.value.Value.{Value}
use Rattle.sc_values.specs.declared.value.Value.TheVariants as values
use Rattle.sc_values.specs.declared.field.Field.{Field}
use Rattle.sc_spelling.specs.declared.value.ValueRef.{ValueRef}
use Rattle.sc_spelling.specs.declared.value.ValueRef.TheVariants as lent
use Rattle.sc_spelling.specs.declared.field.FieldRef.{FieldRef}

-- the value that is lent
abbrev pub value_of : ValueRef → Value
value_of (lent.Text text) = values.Text text.now
value_of (lent.Int n) = values.Int n
value_of (lent.Long n) = values.Long n
value_of (lent.Flag b) = values.Flag b

-- the field that is lent
abbrev pub field_of : FieldRef → Field
field_of f = record { name = f.name.now; values = f.values }
