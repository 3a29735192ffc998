-- Laws of atomic updates: what one change after another makes, that changes make one document, and what is in a list then.
use Rattle.std.specs.Prelude.{◌≡◌, ◌↔◌, ◌+ℤ◌, ℕ, not, ◌&&◌, ◌||◌, ℤ, List, [], ◌∷◌, map, None, IsTrue}
use Rattle.std.specs.List.{IsDistinct}
use Rattle.sc_values.specs.Fields.{AreFields}
use Rattle.sc_record.specs.Orders.{AreFieldChanges}
use Rattle.sc_values.specs.declared.value.Value.{Value}
use Rattle.sc_values.specs.declared.field.Field.{Field}
use Rattle.sc_record.specs.declared.order.How.{How}
use Rattle.sc_record.specs.declared.order.How.TheVariants as hows
use Rattle.sc_record.specs.declared.order.FieldChange.{FieldChange}
use Rattle.sc_partial.specs.Changed.{same_value, is_among, with_distinct, without}
use Rattle.sc_partial.specs.Resolved.{IsChanged, first_refused}

-- a change of the field of this name alone
abbrev pub one_change : List ℕ → How → List FieldChange
one_change name how = record { name = name; how = how } ∷ []

-- two changes of a field, one after the other, make the document that a third one makes at once
abbrev pub AreOne : How → How → How → Type 0
AreOne first second both = (name : List ℕ) (old between new : List Field)
    → IsChanged old (one_change name first) between → IsChanged between (one_change name second) new
    → IsChanged old (one_change name both) new

-- of two sets the last one stands
abbrev pub KeepsLastSet : Type 0
KeepsLastSet = (first last : List Value) → AreOne (hows.Set first) (hows.Set last) (hows.Set last)

-- adding distinct values twice is adding them once
abbrev pub AddsDistinctOnce : Type 0
AddsDistinctOnce = (values : List Value)
    → AreOne (hows.AddDistinct values) (hows.AddDistinct values) (hows.AddDistinct values)

-- removing values that were just added, where they were not in the field yet, is removing them
abbrev pub RemovesWhatIsAdded : Type 0
RemovesWhatIsAdded = (values : List Value) → AreOne (hows.AddDistinct values) (hows.Remove values) (hows.Remove values)

-- two increments are the increment by their sum
abbrev pub SumsIncrements : Type 0
SumsIncrements = (amount other : ℤ) → AreOne (hows.Inc amount) (hows.Inc other) (hows.Inc (amount +ℤ other))

-- which the field can take just where it can take the second one
abbrev pub SumsWithinRange : Type 0
SumsWithinRange = (amount other : ℤ) (name : List ℕ) (old between : List Field)
    → IsChanged old (one_change name (hows.Inc amount)) between
    → first_refused old (one_change name (hows.Inc (amount +ℤ other)))
    ≡ first_refused between (one_change name (hows.Inc other))

-- changes that set all fields of a document
abbrev pub set_all : List Field → List FieldChange
set_all fields = map (λ (field : Field). record { name = field.name; how = hows.Set field.values }) fields

-- a document as a whole is what the changes that set all its fields make of an empty one, which refuses none of them
abbrev pub SetsAWhole : Type 0
SetsAWhole = (fields : List Field) → AreFields fields
    → AreFieldChanges (set_all fields) × (first_refused [] (set_all fields) ≡ None) × IsChanged [] (set_all fields) fields

-- changes make at most one document of an old one
abbrev pub MakesOneDocument : Type 0
MakesOneDocument = (old : List Field) (changes : List FieldChange) (new other : List Field)
    → IsChanged old changes new → IsChanged old changes other → new ≡ other

-- and they make one where no field refuses its change
abbrev pub MakesADocument : Type 0
MakesADocument = (old : List Field) (changes : List FieldChange) → AreFields old → AreFieldChanges changes
    → first_refused old changes ≡ None → (new : List Field) × IsChanged old changes new

-- values are the same exactly where they are equal
abbrev pub TellsValuesApart : Type 0
TellsValuesApart = (value other : Value) → IsTrue (same_value value other) ↔ (value ≡ other)

-- among the values after an add-distinct are those of the list and those that were to be added
abbrev pub AddsWhatIsMissing : Type 0
AddsWhatIsMissing = (list others : List Value) (value : Value)
    → is_among value (with_distinct list others) ≡ (is_among value list || is_among value others)

-- of which none stands twice where none did
abbrev pub AddsNoneTwice : Type 0
AddsNoneTwice = (list others : List Value) → IsDistinct same_value list → IsDistinct same_value (with_distinct list others)

-- among the values after a remove are those of the list but those that were to go
abbrev pub RemovesAll : Type 0
RemovesAll = (list gone : List Value) (value : Value)
    → is_among value (without list gone) ≡ (is_among value list && not (is_among value gone))
