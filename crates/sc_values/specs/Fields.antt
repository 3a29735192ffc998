-- The names of dynamic fields, and what a document is (Solr Reference Guide, "Dynamic Fields").
use Rattle.std.specs.Prelude.{◌≡◌, ℕ, ◌^◌, ◌<◌, FitsSigned, Bool, true, false, List, length, codes, nat_eq, nat_lt, ◌&&◌, if◌then◌else◌, IsTrue, Option, Some, None, [], ◌∷◌, ⊤}
use Rattle.std.specs.List.{ends_with, list_all, AllByRecursion}
use Rattle.std.specs.Cmp.Lexicographic.{slice_cmp}
use Rattle.std.specs.Int.{w32, w64}
use Rattle.std.specs.Str.{bytes_eq, is_utf8}
use Rattle.std.specs.Ordering.{nat_cmp}
use Rattle.std.specs.declared.cmp.Ordering.TheVariants.{Less}
use Rattle.sc_values.specs.declared.value.Kind.{Kind}
use Rattle.sc_values.specs.declared.value.Kind.TheVariants as kinds
use Rattle.sc_values.specs.declared.value.Value.{Value}
use Rattle.sc_values.specs.declared.value.Value.TheVariants as values
use Rattle.sc_values.specs.declared.field.Field.{Field}

-- the name ends in these bytes
abbrev pub has_ending : List ℕ → List ℕ → Bool
has_ending name ending = ends_with nat_eq name ending

-- the kind that a name's ending stands for, and whether the field has many values
abbrev pub kind_by_ending : List ℕ → Option (Kind × Bool)
kind_by_ending name =
    if has_ending name (codes "_s") then Some (kinds.Str, false)
    else (if has_ending name (codes "_ss") then Some (kinds.Str, true)
    else (if has_ending name (codes "_i") then Some (kinds.Int, false)
    else (if has_ending name (codes "_is") then Some (kinds.Int, true)
    else (if has_ending name (codes "_l") then Some (kinds.Long, false)
    else (if has_ending name (codes "_ls") then Some (kinds.Long, true)
    else (if has_ending name (codes "_b") then Some (kinds.Flag, false)
    else (if has_ending name (codes "_bs") then Some (kinds.Flag, true)
    else (if has_ending name (codes "_t") then Some (kinds.Words, false)
    else (if has_ending name (codes "_txt") then Some (kinds.Words, true)
    else None)))))))))

-- the most bytes of the name of a field
abbrev pub name_limit : ℕ
name_limit = 256

-- the kind of a dynamic field
unfoldable pub kind_of : List ℕ → Option (Kind × Bool)
kind_of name = if nat_lt name_limit (length name) then None else kind_by_ending name

-- the value is one that a field of the kind keeps: Words keep their text
abbrev pub fits_kind : Kind → Value → Bool
fits_kind kinds.Str (values.Text text) = true
fits_kind kinds.Words (values.Text text) = true
fits_kind kinds.Int (values.Int n) = true
fits_kind kinds.Long (values.Long n) = true
fits_kind kinds.Flag (values.Flag b) = true
fits_kind kind value = false

-- how many values a field may have: one at least, and one only where the field has one
abbrev pub fits_count : Bool → ℕ → Bool
fits_count true n = nat_lt 0 n
fits_count false n = nat_eq n 1

-- the values are of the kind that the name stands for, and as many as it may have
abbrev pub fits_name : Option (Kind × Bool) → List Value → Bool
fits_name None values = false
fits_name (Some (kind, many)) values = list_all (fits_kind kind) values && fits_count many (length values)

-- the field's values fit its name
abbrev pub IsField : Field → Type 0
IsField f = IsTrue (fits_name (kind_of f.name) f.values)

-- the name comes before that of the first field
abbrev pub IsBelowFirst : List ℕ → List Field → Type 0
IsBelowFirst name [] = ⊤
IsBelowFirst name (f ∷ fields) = slice_cmp nat_cmp name f.name ≡ Less

-- the names ascend by their bytes, so that each stands once
abbrev pub Ascends : List Field → Type 0
Ascends [] = ⊤
Ascends (f ∷ fields) = IsBelowFirst f.name fields × Ascends fields

-- each field's values fit its name, and the names ascend
pub record AreFields (fields : List Field) : Type 0 where
  pub each : AllByRecursion IsField fields
  pub ascends : Ascends fields

-- the value has bytes that tell it: a number fits its width, and so does the length of a text, which is UTF-8
abbrev pub FitsValue : Value → Type 0
FitsValue (values.Text text) = (length text < 2 ^ 32) × IsTrue (is_utf8 text)
FitsValue (values.Int n) = FitsSigned w32 n
FitsValue (values.Long n) = FitsSigned w64 n
FitsValue (values.Flag b) = ⊤

-- the field has bytes that tell it: its name is a text of less than 2^16 bytes, and it has less than 2^32 values, which fit
pub record FitsField (f : Field) : Type 0 where
  pub name : length f.name < 2 ^ 16
  pub text : IsTrue (is_utf8 f.name)
  pub count : length f.values < 2 ^ 32
  pub each : AllByRecursion FitsValue f.values

-- there are less than 2^32 fields, and each has bytes that tell it
pub record Fits (fields : List Field) : Type 0 where
  pub count : length fields < 2 ^ 32
  pub each : AllByRecursion FitsField fields

-- the fields of a document, without its id and its version: each fits its name, the names ascend, and they have bytes that tell them
pub record IsDocument (fields : List Field) : Type 0 where
  pub each : AllByRecursion IsField fields
  pub ascends : Ascends fields
  pub fits : Fits fields

-- the values of the field of this name, if a field has it
abbrev pub values_of : List Field → List ℕ → Option (List Value)
values_of [] name = None
values_of (f ∷ fields) name = if bytes_eq f.name name then Some f.values else values_of fields name
