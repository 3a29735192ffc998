-- The order that the members of a document ask for, or the first of their faults (Solr Reference Guide, "Atomic Updates").
use Rattle.std.specs.Prelude.{◌≡◌, ◌⊎◌, ℕ, Bool, true, false, not, ◌||◌, if◌then◌else◌, ℤ, pos, List, [], ◌∷◌, length, map, filter, filter_map, codes, bytes_eq, nat_eq, nat_lt, Option, Some, None, ok_or, Result, Ok, Err, ⊤}
use Rattle.std.specs.List.{list_any}
use Rattle.std.specs.Fmt.{signed_decimal}
use Rattle.sc_values.specs.Fields.{kind_of}
use Rattle.sc_record.specs.Ids.{id_limit}
use Rattle.sc_values.specs.declared.value.Kind.{Kind}
use Rattle.sc_values.specs.declared.field.Field.{Field}
use Rattle.sc_record.specs.declared.order.How.{How}
use Rattle.sc_record.specs.declared.order.How.TheVariants as hows
use Rattle.sc_record.specs.declared.order.FieldChange.{FieldChange}
use Rattle.sc_record.specs.declared.order.Change.{Change}
use Rattle.sc_record.specs.declared.order.Change.TheVariants as changes
use Rattle.sc_record.specs.declared.order.Order.{Order}
use Rattle.sc_schema.specs.Raw.{raw_names}
use Rattle.sc_schema.specs.Values.{number_text, how_of_value}
use Rattle.sc_schema.specs.declared.raw.RawField.{RawField}
use Rattle.sc_schema.specs.declared.raw.RawOne.TheVariants as ones
use Rattle.sc_schema.specs.declared.raw.RawFlat.TheVariants as flats
use Rattle.sc_schema.specs.declared.raw.RawValue.{RawValue}
use Rattle.sc_schema.specs.declared.raw.RawValue.TheVariants as raws
use Rattle.sc_schema.specs.declared.fault.DocFault.{DocFault}
use Rattle.sc_schema.specs.declared.fault.DocFault.TheVariants as faults

-- what follows of what is found, or the fault
abbrev pub and_then : {T U : Type 0} → (T → Result U DocFault) → Result T DocFault → Result U DocFault
and_then f (Ok x) = f x
and_then f (Err fault) = Err fault

-- what is found, changed; or the fault
abbrev pub found_map : {T U : Type 0} → (T → U) → Result T DocFault → Result U DocFault
found_map f (Ok x) = Ok (f x)
found_map f (Err fault) = Err fault

-- the fault is the one that is found, or memory ran out before one was
abbrev pub IsDocumentFault : {T : Type 0} → Result T DocFault → DocFault → Type 0
IsDocumentFault found fault = (fault ≡ faults.Memory) ⊎ (found ≡ Err fault)

-- the value of the member of this name, if a member has it
abbrev pub member : List RawField → List ℕ → Option RawValue
member [] name = None
member (field ∷ fields) name = if bytes_eq field.name name then Some field.value else member fields name

-- a text as an id: it has a byte, and no more than an id may have
abbrev pub id_text : List ℕ → Result (List ℕ) DocFault
id_text text = if nat_eq (length text) 0 then Err faults.NoId else (if nat_lt id_limit (length text) then Err faults.IdTooLong else Ok text)

-- the id of a document: a text, or a whole number as its decimal text
abbrev pub id_of : Option RawValue → Result (List ℕ) DocFault
id_of None = Err faults.NoId
id_of (Some (raws.Plain (flats.One ones.Null))) = Err faults.NoId
id_of (Some (raws.Plain (flats.One (ones.Text text)))) = id_text text
id_of (Some (raws.Plain (flats.One (ones.Number n)))) = id_text (signed_decimal n)
id_of (Some value) = Err (faults.WrongValue (codes "id"))

-- the number, where the text is just its decimal text
abbrev pub canonical : List ℕ → ℤ → Result ℤ DocFault
canonical text n = if bytes_eq text (signed_decimal n) then Ok n else Err (faults.WrongValue (codes "_version_"))

-- the version that a text states
abbrev pub condition_text : List ℕ → Result ℤ DocFault
condition_text text = and_then (canonical text) (ok_or (number_text text) (faults.WrongValue (codes "_version_")))

-- the condition of a document: its version, as a whole number of 64 bits or its decimal text, and 0 where it has none
abbrev pub version_condition : Option RawValue → Result ℤ DocFault
version_condition None = Ok (pos 0)
version_condition (Some (raws.Plain (flats.One (ones.Number n)))) = Ok n
version_condition (Some (raws.Plain (flats.One (ones.Text text)))) = condition_text text
version_condition (Some value) = Err (faults.WrongValue (codes "_version_"))

-- how a member changes its field, by the field's kind
abbrev pub how_of_member : Option (Kind × Bool) → RawField → Result How DocFault
how_of_member None field = Err (faults.UnknownField field.name)
how_of_member (Some (kind, many)) field = ok_or (how_of_value kind many field.value) (faults.WrongValue field.name)

-- the change of a field that a member asks for
abbrev pub member_change : RawField → Result FieldChange DocFault
member_change field = found_map (λ how. record { name = field.name; how = how }) (how_of_member (kind_of field.name) field)

-- the id and the version stand apart from the fields
abbrev pub is_field_name : List ℕ → Bool
is_field_name name = not (bytes_eq name (codes "id") || bytes_eq name (codes "_version_"))

-- the changes of fields that the members ask for, in order
abbrev pub member_changes : List RawField → Result (List FieldChange) DocFault
member_changes [] = Ok []
member_changes (field ∷ fields) =
    if is_field_name field.name then and_then (λ part. found_map (λ parts. part ∷ parts) (member_changes fields)) (member_change field) else member_changes fields

-- the value is an object
abbrev pub is_object : RawValue → Bool
is_object (raws.Plain flat) = false
is_object (raws.Change name flat) = true

-- a field of a new document that is set to values; one that is set to none is left out
abbrev pub set_field : List ℕ → How → Option Field
set_field name (hows.Set (value ∷ values)) = Some (record { name = name; values = value ∷ values })
set_field name how = None

-- the field that a change makes of nothing
abbrev pub field_of : FieldChange → Option Field
field_of part = set_field part.name part.how

-- the change that a document asks for: an atomic update where a member's value is an object, else the document as it is
abbrev pub change_of_members : List RawField → List FieldChange → Change
change_of_members fields parts = if list_any (λ (field : RawField). is_object field.value) fields then changes.Parts parts else changes.Whole (filter_map field_of parts)

-- what an order asks for
pub record OrderContent : Type 0 where
  pub id : List ℕ
  pub condition : ℤ
  pub change : Change

-- of an order
abbrev pub content_of : Order → OrderContent
content_of order = record { id = order.id; condition = order.condition; change = order.change }

-- the order that a document's members ask for, or the first fault: of the id, of the version, then of the fields in order
abbrev pub document_order : List RawField → Result OrderContent DocFault
document_order fields =
    and_then (λ id. and_then (λ condition. found_map (λ parts. record { id = id; condition = condition; change = change_of_members fields parts }) (member_changes fields))
    (version_condition (member fields (codes "_version_")))) (id_of (member fields (codes "id")))

-- an atomic update names each member but the id and the version, in order; and no document asks for a deletion
abbrev pub NamesFields : List RawField → Change → Type 0
NamesFields fields (changes.Parts parts) = map (λ (part : FieldChange). part.name) parts ≡ filter is_field_name (raw_names fields)
NamesFields fields (changes.Whole doc) = ⊤
NamesFields fields changes.Delete = ⊥
