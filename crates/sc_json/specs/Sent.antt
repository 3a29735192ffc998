-- What is sent to a writer for members of an object, and where a name stands among fields.
use Rattle.std.specs.Prelude.{◌≡◌, ℕ, List, [], ◌∷◌, ◌++◌, map, Option, Some, None, ⊤}
use Rattle.std.specs.List.{AllByRecursion}
use Rattle.std.specs.Cmp.Lexicographic.{slice_cmp}
use Rattle.std.specs.Ordering.{nat_cmp}
use Rattle.std.specs.declared.cmp.Ordering.TheVariants.{Less}
use Rattle.serde.specs.Event.{Log, Logs, WritesEach, field_key}
use Rattle.serde.specs.declared.name.Case.TheVariants.{AsIs}
use Rattle.serde_json.specs.Data.{Data}
use Rattle.serde_json.specs.Events.{SendsValue}
use Rattle.sc_values.specs.declared.field.Field.{Field}
use Rattle.sc_spelling.specs.Lent.{field_of}
use Rattle.sc_spelling.specs.declared.field.FieldRef.{FieldRef}
use Rattle.sc_json.specs.Documents.{field_member}

-- a member's key, and then its value
abbrev pub SendsMember : List ℕ × Data → Log → Log → Type 0
SendsMember member old new = (named : Log) × Logs old named (field_key member.0 AsIs) × SendsValue member.1 named new

-- each member in turn
abbrev pub SendsEach : List (List ℕ × Data) → Log → Log → Type 0
SendsEach members old new = WritesEach SendsMember members old new

-- the field's name comes before this one
abbrev pub ComesBefore : List ℕ → Field → Type 0
ComesBefore name field = slice_cmp nat_cmp field.name name ≡ Less

-- the first field's name does not
abbrev pub StartsAfter : List ℕ → List Field → Type 0
StartsAfter name [] = ⊤
StartsAfter name (field ∷ fields) = ¬ ComesBefore name field

-- the field that was lent last, which is the next, and those after it
abbrev pub with_next : Option FieldRef → List Field → List Field
with_next None fields = []
with_next (Some field) fields = field_of field ∷ fields

-- the first fields were sent, whose names come before this one, and these are left, of which the first's name does not
pub record SendsBefore (name : List ℕ) (fields left : List Field) (old new : Log) : Type 0 where
  pub sent : List Field
  pub whole : fields ≡ sent ++ left
  pub before : AllByRecursion (ComesBefore name) sent
  pub after : StartsAfter name left
  pub each : SendsEach (map field_member sent) old new
