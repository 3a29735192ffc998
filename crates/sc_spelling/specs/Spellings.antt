-- The bytes of a document's fields. Numbers are little-endian.
use Rattle.std.specs.Prelude.{◌≡◌, ℕ, Bool, true, false, List, [], ◌∷◌, ◌++◌, length}
use Rattle.std.specs.Int.{w16, w32, w64, to_le_bytes, cast_unsigned}
use Rattle.std.specs.List.{flat_map}
use Rattle.sc_values.specs.declared.value.Value.{Value}
use Rattle.sc_values.specs.declared.value.Value.TheVariants as values
use Rattle.sc_values.specs.declared.field.Field.{Field}

-- the byte of a truth
abbrev pub flag_byte : Bool → ℕ
flag_byte true = 1
flag_byte false = 0

-- the bytes of a value: a text's length in four bytes and the text, a number's four or eight bytes, a truth's byte
abbrev pub spelling_of_value : Value → List ℕ
spelling_of_value (values.Text text) = to_le_bytes w32 (length text) ++ text
spelling_of_value (values.Int n) = to_le_bytes w32 (cast_unsigned w32 n)
spelling_of_value (values.Long n) = to_le_bytes w64 (cast_unsigned w64 n)
spelling_of_value (values.Flag b) = flag_byte b ∷ []

-- the bytes of a field: its name's length in two bytes and the name, the number of its values in four, and the values
abbrev pub spelling_of_field : Field → List ℕ
spelling_of_field f =
    to_le_bytes w16 (length f.name) ++ (f.name ++ (to_le_bytes w32 (length f.values) ++ flat_map spelling_of_value f.values))

-- the bytes of a document's fields: their number in four bytes, and the fields
abbrev pub spelling : List Field → List ℕ
spelling fields = to_le_bytes w32 (length fields) ++ flat_map spelling_of_field fields

-- new is old with some bytes more at its end
pub record Extends (old new : List ℕ) : Type 0 where
  pub more : List ℕ
  pub whole : new ≡ old ++ more
