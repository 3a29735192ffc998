-- What a builder of a document has so far.
use Rattle.std.specs.Prelude.{◌≡◌, ◌<◌, ◌+◌, ◌^◌, ℕ, suc, List, [], ◌++◌, length, IsTrue}
use Rattle.std.specs.Int.{w16, w32, to_le_bytes}
use Rattle.std.specs.List.{flat_map}
use Rattle.std.specs.Str.{is_utf8}
use Rattle.sc_values.specs.declared.value.Value.{Value}
use Rattle.sc_values.specs.declared.field.Field.{Field}
use Rattle.sc_spelling.specs.Spellings.{spelling_of_value, spelling_of_field}

-- how many fields there are, and their spellings
pub record DocParts : Type 0 where
  pub count : ℕ
  pub bytes : List ℕ

-- no fields
abbrev pub no_parts : DocParts
no_parts = record { count = 0; bytes = [] }

-- the bytes of the document that has these fields
abbrev pub spelled : DocParts → List ℕ
spelled parts = to_le_bytes w32 parts.count ++ parts.bytes

-- the bytes before the values of a field: its name's length and the name, and the number of its values
abbrev pub spelling_before_values : List ℕ → ℕ → List ℕ
spelling_before_values name count = to_le_bytes w16 (length name) ++ (name ++ to_le_bytes w32 count)

-- one more field, whose values follow
abbrev pub with_field : List ℕ → ℕ → DocParts → DocParts
with_field name count parts = record { count = suc parts.count; bytes = parts.bytes ++ spelling_before_values name count }

-- one more value of the last field
abbrev pub with_value : Value → DocParts → DocParts
with_value value parts = record { count = parts.count; bytes = parts.bytes ++ spelling_of_value value }

-- the bytes of a field tell its name, a text of less than 2^16 bytes, and so many values
pub record FitsBefore (name : List ℕ) (count : ℕ) : Type 0 where
  pub short : length name < 2 ^ 16
  pub text : IsTrue (is_utf8 name)
  pub few : count < 2 ^ 32

-- the new parts are the old ones, and these fields after them
pub record Adds (fields : List Field) (old new : DocParts) : Type 0 where
  pub count : new.count ≡ old.count + length fields
  pub bytes : new.bytes ≡ old.bytes ++ flat_map spelling_of_field fields
