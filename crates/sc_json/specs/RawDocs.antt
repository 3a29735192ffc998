-- What an object's members are as a document that is not checked yet.
use Rattle.std.specs.Prelude.{ℤ, List, [], ◌∷◌, Option, Some, None}
use Rattle.serde_json.specs.Data.{Num, Data, null, boolean, number, string, array, object, Items, no_items, item, Members, no_members, member}
use Rattle.serde_json.specs.Find.{as_i64}
use Rattle.sc_schema.specs.declared.raw.RawField.{RawField}
use Rattle.sc_schema.specs.declared.raw.RawValue.{RawValue}
use Rattle.sc_schema.specs.declared.raw.RawValue.TheVariants.{Plain, Change}
use Rattle.sc_schema.specs.declared.raw.RawFlat.{RawFlat}
use Rattle.sc_schema.specs.declared.raw.RawFlat.TheVariants.{One, Many}
use Rattle.sc_schema.specs.declared.raw.RawOne.{RawOne}
use Rattle.sc_schema.specs.declared.raw.RawOne.TheVariants as ones

-- a whole number of 64 signed bits, but for `-0`
abbrev pub raw_whole : Option ℤ → RawOne
raw_whole (Some n) = ones.Number n
raw_whole None = ones.Other

-- a number; all but whole numbers of 64 signed bits are other values
abbrev pub raw_number : Num → RawOne
raw_number n = raw_whole (as_i64 n)

-- one value; arrays and objects are other values
abbrev pub raw_one : Data → RawOne
raw_one null = ones.Null
raw_one (boolean b) = ones.Flag b
raw_one (number n) = raw_number n
raw_one (string text) = ones.Text text
raw_one (array items) = ones.Other
raw_one (object fields) = ones.Other

-- the values that an array's items are
abbrev pub raw_items : Items → List RawOne
raw_items no_items = []
raw_items (item value items) = raw_one value ∷ raw_items items

-- a list of values where the value is an array, else the one value
abbrev pub raw_flat : Data → RawFlat
raw_flat (array items) = Many (raw_items items)
raw_flat value = One (raw_one value)

-- an object with exactly one key is a change, and every other object one other value
abbrev pub raw_change : Members → RawValue
raw_change (member op value no_members) = Change op (raw_flat value)
raw_change other = Plain (One ones.Other)

-- the value of a document's member
abbrev pub raw_value : Data → RawValue
raw_value (object members) = raw_change members
raw_value value = Plain (raw_flat value)

-- the fields that an object's members are
abbrev pub raw_fields : Members → List RawField
raw_fields no_members = []
raw_fields (member name value members) = record { name = name; value = raw_value value } ∷ raw_fields members

-- the fields of a document, which is an object
abbrev pub raw_fields_of : Data → Option (List RawField)
raw_fields_of (object members) = Some (raw_fields members)
raw_fields_of value = None
