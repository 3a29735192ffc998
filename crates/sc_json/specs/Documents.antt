-- The JSON value that a document is (Solr Reference Guide, "Response Writers").
use Rattle.std.specs.Prelude.{ℕ, ℤ, Bool, false, List, [], ◌∷◌, map, codes, Option, Some, None}
use Rattle.serde_json.specs.Data.{Data, null, boolean, number, string, array, object, Members, no_members, put}
use Rattle.serde_json.specs.Find.{of_integer}
use Rattle.serde_json.specs.View.{items_of}
use Rattle.sc_values.specs.Fields.{kind_of}
use Rattle.sc_values.specs.declared.field.Field.{Field}
use Rattle.sc_values.specs.declared.value.Kind.{Kind}
use Rattle.sc_values.specs.declared.value.Value.{Value}
use Rattle.sc_values.specs.declared.value.Value.TheVariants as values
use Rattle.sc_record.specs.Writes.{Write}

-- the members with these put among them, in the order of their keys' bytes
abbrev pub put_all : List (List ℕ × Data) → Members → Members
put_all [] old = old
put_all ((key, value) ∷ rest) old = put key value (put_all rest old)

-- these members alone
abbrev pub members_of : List (List ℕ × Data) → Members
members_of members = put_all members no_members

-- the object of these members
abbrev pub object_of : List (List ℕ × Data) → Data
object_of members = object (members_of members)

-- the array of these values
abbrev pub array_of : List Data → Data
array_of values = array (items_of values)

-- a whole number
abbrev pub whole_number : ℤ → Data
whole_number n = number (of_integer n)

-- a value of a field
abbrev pub value_data : Value → Data
value_data (values.Text text) = string text
value_data (values.Int n) = whole_number n
value_data (values.Long n) = whole_number n
value_data (values.Flag b) = boolean b

-- the value of a field that may have one value, else the list of its values
abbrev pub field_data : Option (Kind × Bool) → List Value → Data
field_data (Some (kind, false)) (value ∷ []) = value_data value
field_data kind all = array_of (map value_data all)

-- the member that a field is
abbrev pub field_member : Field → List ℕ × Data
field_member field = (field.name, field_data (kind_of field.name) field.values)

-- a document with its version and its id; null where there is none
abbrev pub document_data : List ℕ → ℤ → Option (List Field) → Data
document_data id version None = null
document_data id version (Some fields) =
    object_of ((codes "_version_", whole_number version) ∷ (codes "id", string id) ∷ map field_member fields)

-- the document of a write; null where it is a deletion
abbrev pub write_data : Write → Data
write_data write = document_data write.id write.version write.doc
