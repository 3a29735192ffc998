-- What changes make of a document, or the first field that can't take its change (Solr Reference Guide, "Atomic Updates").
use Rattle.std.specs.Prelude.{◌≡◌, ℕ, if◌then◌else◌, List, [], ◌∷◌, bytes_eq, Option, Some, None, unwrap_or, ⊤}
use Rattle.sc_values.specs.Fields.{AreFields, values_of}
use Rattle.sc_values.specs.declared.value.Value.{Value}
use Rattle.sc_values.specs.declared.field.Field.{Field}
use Rattle.sc_record.specs.declared.order.How.{How}
use Rattle.sc_record.specs.declared.order.FieldChange.{FieldChange}
use Rattle.sc_partial.specs.Changed.{changed, can_change}
use Rattle.sc_partial.specs.declared.fault.PartialFault.{PartialFault}
use Rattle.sc_partial.specs.declared.fault.PartialFault.TheVariants as faults

-- the values that stand in the field of this name; none where there is no such field
abbrev pub standing : List Field → List ℕ → List Value
standing fields name = unwrap_or (values_of fields name) []

-- the first change of the field of this name, if there is one
abbrev pub how_of : List FieldChange → List ℕ → Option How
how_of [] name = None
how_of (change ∷ changes) name = if bytes_eq change.name name then Some change.how else how_of changes name

-- the values of the field of this name after its change, or as they were where it has none
abbrev pub changed_by : List ℕ → List Value → Option How → List Value
changed_by name old None = old
changed_by name old (Some how) = changed name old how

-- the values of the field of this name after all changes
abbrev pub resolved : List Field → List FieldChange → List ℕ → List Value
resolved old changes name = changed_by name (standing old name) (how_of changes name)

-- a field has values: one without values is left out
abbrev pub some_values : List Value → Option (List Value)
some_values [] = None
some_values (value ∷ others) = Some (value ∷ others)

-- the field of this name with these values, where there are some
abbrev pub some_field : List ℕ → List Value → List Field
some_field name [] = []
some_field name (value ∷ others) = record { name = name; values = value ∷ others } ∷ []

-- the document that the changes make of the old one: by it each name has the values that are resolved, or no field
pub record IsChanged (old : List Field) (changes : List FieldChange) (new : List Field) : Type 0 where
  pub document : AreFields new
  pub values : (name : List ℕ) → values_of new name ≡ some_values (resolved old changes name)

-- the name of the first change that its field can't take; of names that ascend it is the least
abbrev pub first_refused : List Field → List FieldChange → Option (List ℕ)
first_refused old [] = None
first_refused old (change ∷ changes) =
    if can_change change.name (standing old change.name) change.how then first_refused old changes else Some change.name

-- the fields of a document, and none where there is no document
abbrev pub fields_of : Option (List Field) → List Field
fields_of old = unwrap_or old []

-- the fault names the field that is refused; or memory ran out
abbrev pub IsRefusalOf : Option (List ℕ) → PartialFault → Type 0
IsRefusalOf refused faults.Memory = ⊤
IsRefusalOf refused (faults.Field name) = refused ≡ Some name
