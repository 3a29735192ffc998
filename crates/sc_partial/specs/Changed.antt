-- What the values of a field become by a change, and which changes it can take (Solr Reference Guide, "Atomic Updates").
use Rattle.std.specs.Prelude.{◌+ℤ◌, ℕ, Bool, true, false, not, if◌then◌else◌, ℤ, pos, List, [], ◌∷◌, ◌++◌, length, filter, bytes_eq, nat_le, Option, Some}
use Rattle.std.specs.List.{list_any}
use Rattle.std.specs.Ordering.{int_eq}
use mathlib.Core.Bool.{beq}
use Rattle.sc_values.specs.Fields.{kind_of}
use Rattle.sc_record.specs.Orders.{is_int, is_long}
use Rattle.sc_values.specs.declared.value.Kind.{Kind}
use Rattle.sc_values.specs.declared.value.Kind.TheVariants as kinds
use Rattle.sc_values.specs.declared.value.Value.{Value}
use Rattle.sc_values.specs.declared.value.Value.TheVariants as values
use Rattle.sc_record.specs.declared.order.How.{How}
use Rattle.sc_record.specs.declared.order.How.TheVariants as hows

-- the two values are equal
abbrev pub same_value : Value → Value → Bool
same_value (values.Text text) (values.Text other) = bytes_eq text other
same_value (values.Int n) (values.Int other) = int_eq n other
same_value (values.Long n) (values.Long other) = int_eq n other
same_value (values.Flag flag) (values.Flag other) = beq flag other
same_value value other = false

-- the list has a value that equals this one
abbrev pub is_among : Value → List Value → Bool
is_among value list = list_any (same_value value) list

-- the list, and after it, in order, each of these values that is not in it so far
abbrev pub with_distinct : List Value → List Value → List Value
with_distinct list [] = list
with_distinct list (value ∷ others) = with_distinct (if is_among value list then list else list ++ value ∷ []) others

-- the list without all values that equal one of these
abbrev pub without : List Value → List Value → List Value
without list gone = filter (λ value. not (is_among value gone)) list

-- the number that stands, and 0 where none stands
abbrev pub number_in : List Value → ℤ
number_in [] = pos 0
number_in (values.Text text ∷ others) = pos 0
number_in (values.Int n ∷ others) = n
number_in (values.Long n ∷ others) = n
number_in (values.Flag flag ∷ others) = pos 0

-- the number as a value of a field of this kind
abbrev pub number_value : Option (Kind × Bool) → ℤ → Value
number_value (Some (kinds.Int, many)) n = values.Int n
number_value kind n = values.Long n

-- the values of the field of this name after a change
abbrev pub changed : List ℕ → List Value → How → List Value
changed name old (hows.Set values) = values
changed name old (hows.Add values) = old ++ values
changed name old (hows.AddDistinct values) = with_distinct old values
changed name old (hows.Remove values) = without old values
changed name old (hows.Inc amount) = number_value (kind_of name) (number_in old +ℤ amount) ∷ []

-- the number is in the range of the kind: 32 bits of an Int, and 64 of a Long
abbrev pub is_in_kind_range : Option (Kind × Bool) → ℤ → Bool
is_in_kind_range (Some (kinds.Int, many)) n = is_int n
is_in_kind_range kind n = is_long n

-- a field may have these values: two or more only where it may have many
abbrev pub has_room : Option (Kind × Bool) → List Value → Bool
has_room (Some (kind, false)) list = nat_le (length list) 1
has_room kind list = true

-- the field of this name can take the change: no sum leaves the range of its kind, and no field of one value gets two
abbrev pub can_change : List ℕ → List Value → How → Bool
can_change name old (hows.Inc amount) = is_in_kind_range (kind_of name) (number_in old +ℤ amount)
can_change name old how = has_room (kind_of name) (changed name old how)
