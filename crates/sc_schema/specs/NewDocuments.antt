-- What a new document's members put into its bytes.
use Rattle.std.specs.Prelude.{◌≡◌, ℕ, Bool, true, false, List, ◌++◌, filter_map, Option, Some, None, Result, Ok, Err, ⊤}
use Rattle.std.specs.List.{flat_map, AllByRecursion}
use Rattle.sc_values.specs.Fields.{FitsValue, FitsField}
use Rattle.sc_values.specs.declared.value.Value.{Value}
use Rattle.sc_spelling.specs.Spellings.{spelling_of_value}
use Rattle.sc_record.specs.DocParts.{DocParts, Adds}
use Rattle.sc_record.specs.declared.order.How.TheVariants as hows
use Rattle.sc_record.specs.declared.order.FieldChange.{FieldChange}
use Rattle.sc_schema.specs.Documents.{field_of}
use Rattle.sc_schema.specs.declared.fault.DocFault.{DocFault}

-- it is told whether there is something, and of what there is this holds
abbrev pub IfFit : {T : Type 0} → Bool → Option T → (T → Type 0) → Type 0
IfFit true None holds = ⊥
IfFit true (Some x) holds = holds x
IfFit false None holds = ⊤
IfFit false (Some x) holds = ⊥

-- the new parts are the old ones, and these values of the last field after them
pub record AddsValues (values : List Value) (old new : DocParts) : Type 0 where
  pub count : new.count ≡ old.count
  pub bytes : new.bytes ≡ old.bytes ++ flat_map spelling_of_value values
  pub fits : AllByRecursion FitsValue values

-- the change that sets the field of this name
abbrev pub set_to : List ℕ → List Value → FieldChange
set_to name values = record { name = name; how = hows.Set values }

-- the new parts are the old ones, and after them the fields of a new document that these changes make
pub record AddsFields (parts : List FieldChange) (old new : DocParts) : Type 0 where
  pub adds : Adds (filter_map field_of parts) old new
  pub fits : AllByRecursion FitsField (filter_map field_of parts)

-- the same of the changes that are found
abbrev pub AddsFound : Result (List FieldChange) DocFault → DocParts → DocParts → Type 0
AddsFound (Ok parts) old new = AddsFields parts old new
AddsFound (Err fault) old new = ⊥
