-- Reading from the front of bytes: the value that is spelled there and the bytes after it, or nothing where none is.
use Rattle.std.specs.Prelude.{◌≡◌, ℕ, zero, suc, Bool, true, false, List, [], ◌∷◌, length, take, drop, Option, Some, None, nat_lt, if◌then◌else◌}
use Rattle.std.specs.Int.{Width, w16, w32, w64, byte_len, from_le_bytes, cast_signed}
use Rattle.std.specs.Str.{is_utf8}
use Rattle.std.specs.Ordering.{nat_cmp, is_lt}
use Rattle.std.specs.Cmp.Lexicographic.{slice_cmp}
use Rattle.sc_values.specs.declared.value.Kind.{Kind}
use Rattle.sc_values.specs.declared.value.Kind.TheVariants as kinds
use Rattle.sc_values.specs.declared.value.Value.{Value}
use Rattle.sc_values.specs.declared.value.Value.TheVariants as values
use Rattle.sc_values.specs.declared.field.Field.{Field}
use Rattle.sc_values.specs.Fields.{kind_of, fits_count}

-- goes on with what was read, where something was
infixl 10 ◌>>=◌
abbrev pub ◌>>=◌ : {A B : Type 0} → Option A → (A → Option B) → Option B
(Some x) >>= f = f x
None >>= f = None

-- what a function returned, seen by view, is what was to be read
abbrev pub Gives : {X Y : Type 0} → (X → Y) → Option X → Option Y → Type 0
Gives view None read = read ≡ None
Gives view (Some x) read = read ≡ Some (view x)

-- a number of this width
abbrev pub number_at : Width → List ℕ → Option (ℕ × List ℕ)
number_at w bytes = if nat_lt (length bytes) (byte_len w) then None else Some (from_le_bytes w (take (byte_len w) bytes), drop (byte_len w) bytes)

-- a text of so many bytes
abbrev pub cut_text : ℕ → List ℕ → Option (List ℕ × List ℕ)
cut_text n bytes = if nat_lt (length bytes) n then None else (if is_utf8 (take n bytes) then Some (take n bytes, drop n bytes) else None)

-- a text with its length before it, in a number of this width
unfoldable pub text_at : Width → List ℕ → Option (List ℕ × List ℕ)
text_at w bytes = do
  n ← number_at w bytes
  cut_text n.0 n.1

-- a truth
unfoldable pub flag_at : List ℕ → Option (Bool × List ℕ)
flag_at [] = None
flag_at (zero ∷ rest) = Some (false, rest)
flag_at (suc zero ∷ rest) = Some (true, rest)
flag_at (suc (suc b) ∷ rest) = None

-- a value that is a text
abbrev pub text_value_at : List ℕ → Option (Value × List ℕ)
text_value_at bytes = do
  text ← text_at w32 bytes
  Some (values.Text text.0, text.1)

-- a value of this kind
unfoldable pub value_at : Kind → List ℕ → Option (Value × List ℕ)
value_at kinds.Str bytes = text_value_at bytes
value_at kinds.Words bytes = text_value_at bytes
value_at kinds.Int bytes = do
  n ← number_at w32 bytes
  Some (values.Int (cast_signed w32 n.0), n.1)
value_at kinds.Long bytes = do
  n ← number_at w64 bytes
  Some (values.Long (cast_signed w64 n.0), n.1)
value_at kinds.Flag bytes = do
  flag ← flag_at bytes
  Some (values.Flag flag.0, flag.1)

-- so many values of this kind
unfoldable pub values_at : Kind → ℕ → List ℕ → Option (List Value × List ℕ)
values_at kind zero bytes = Some ([], bytes)
values_at kind (suc n) bytes = do
  first ← value_at kind bytes
  others ← values_at kind n first.1
  Some (first.0 ∷ others.0, others.1)

-- a field: its name, and as many values of its kind as it may have
unfoldable pub field_at : List ℕ → Option (Field × List ℕ)
field_at bytes = do
  name ← text_at w16 bytes
  kind ← kind_of name.0
  count ← number_at w32 name.1
  values ← (if fits_count kind.1 count.0 then values_at kind.0 count.0 count.1 else None)
  Some (record { name = name.0; values = values.0 }, values.1)

-- a field whose name comes after this one
unfoldable pub field_after : List ℕ → List ℕ → Option (Field × List ℕ)
field_after before bytes = do
  field ← field_at bytes
  (if is_lt (slice_cmp nat_cmp before field.0.name) then Some field else None)

-- so many fields, whose names ascend from this one on
unfoldable pub fields_at : List ℕ → ℕ → List ℕ → Option (List Field × List ℕ)
fields_at before zero bytes = Some ([], bytes)
fields_at before (suc n) bytes = do
  first ← field_after before bytes
  others ← fields_at first.0.name n first.1
  Some (first.0 ∷ others.0, others.1)

-- the fields of a document
unfoldable pub document_at : List ℕ → Option (List Field × List ℕ)
document_at bytes = do
  count ← number_at w32 bytes
  fields_at [] count.0 count.1

-- what was read, or an empty list
abbrev pub read_of : {A : Type 0} → Option (List A × List ℕ) → List A
read_of None = []
read_of (Some read) = read.0

-- the bytes after what was read
abbrev pub rest_of : {A : Type 0} → Option (A × List ℕ) → Option (List ℕ)
rest_of None = None
rest_of (Some read) = Some read.1
