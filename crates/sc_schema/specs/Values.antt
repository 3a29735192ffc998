-- What a value of JSON is to a field, by the kind of the field.
use Rattle.std.specs.Prelude.{ℕ, Bool, true, false, ◌&&◌, ◌||◌, if◌then◌else◌, ℤ, List, [], ◌∷◌, length, drop, codes, bytes_eq, nat_lt, nat_le, Option, Some, None, option_map, option_and_then}
use Rattle.std.specs.Fmt.{signed_decimal}
use Rattle.std.specs.Str.{all_ascii_digits}
use Rattle.std.specs.Str.Parse.{starts_with_minus, signed_digits_value}
use Rattle.sc_record.specs.Orders.{is_int, is_long, fits_amount}
use Rattle.sc_values.specs.declared.value.Kind.{Kind}
use Rattle.sc_values.specs.declared.value.Kind.TheVariants as kinds
use Rattle.sc_values.specs.declared.value.Value.{Value}
use Rattle.sc_values.specs.declared.value.Value.TheVariants as values
use Rattle.sc_record.specs.declared.order.How.{How}
use Rattle.sc_record.specs.declared.order.How.TheVariants as hows
use Rattle.sc_schema.specs.declared.raw.RawOne.{RawOne}
use Rattle.sc_schema.specs.declared.raw.RawOne.TheVariants as ones
use Rattle.sc_schema.specs.declared.raw.RawFlat.{RawFlat}
use Rattle.sc_schema.specs.declared.raw.RawFlat.TheVariants as flats
use Rattle.sc_schema.specs.declared.raw.RawValue.{RawValue}
use Rattle.sc_schema.specs.declared.raw.RawValue.TheVariants as raws

-- a truth value by its name
abbrev pub flag_text : Bool → List ℕ
flag_text flag = if flag then codes "true" else codes "false"

-- the text that a value is: a text as it is, a whole number as its decimal text, a truth value by its name
abbrev pub text_value : RawOne → Option (List ℕ)
text_value ones.Null = None
text_value (ones.Flag flag) = Some (flag_text flag)
text_value (ones.Number n) = Some (signed_decimal n)
text_value ones.Other = None
text_value (ones.Text text) = Some text

-- a text without the minus sign that it may begin with
abbrev pub without_minus : List ℕ → List ℕ
without_minus text = if starts_with_minus text then drop 1 text else text

-- the text is one decimal digit or more, after a minus sign or none
abbrev pub is_decimal : List ℕ → Bool
is_decimal text = all_ascii_digits (without_minus text) && nat_lt 0 (length (without_minus text))

-- the number of 64 bits that a decimal text writes
abbrev pub number_text : List ℕ → Option ℤ
number_text text = if is_decimal text && is_long (signed_digits_value 10 text) then Some (signed_digits_value 10 text) else None

-- the whole number that a value is, as a number or as its text
abbrev pub number_of : RawOne → Option ℤ
number_of ones.Null = None
number_of (ones.Flag flag) = None
number_of (ones.Number n) = Some n
number_of ones.Other = None
number_of (ones.Text text) = number_text text

-- the truth value of this name
abbrev pub flag_named : List ℕ → Option Bool
flag_named text = if bytes_eq text (codes "true") then Some true else (if bytes_eq text (codes "false") then Some false else None)

-- the truth value that a value is, as such or by its name
abbrev pub flag_of : RawOne → Option Bool
flag_of ones.Null = None
flag_of (ones.Flag flag) = Some flag
flag_of (ones.Number n) = None
flag_of ones.Other = None
flag_of (ones.Text text) = flag_named text

-- a number as a value of 32 bits
abbrev pub int_value : ℤ → Option Value
int_value n = if is_int n then Some (values.Int n) else None

-- the value of a field of this kind; None where it does not fit
abbrev pub value_of : Kind → RawOne → Option Value
value_of kinds.Str one = option_map values.Text (text_value one)
value_of kinds.Int one = option_and_then int_value (number_of one)
value_of kinds.Long one = option_map values.Long (number_of one)
value_of kinds.Flag one = option_map values.Flag (flag_of one)
value_of kinds.Words one = option_map values.Text (text_value one)

-- the values of a field, in order; None where one does not fit
abbrev pub values_in : Kind → List RawOne → Option (List Value)
values_in kind [] = Some []
values_in kind (one ∷ list) = option_and_then (λ value. option_map (λ more. value ∷ more) (values_in kind list)) (value_of kind one)

-- the values that are given: a list's, one, or none where it is null
abbrev pub given : RawFlat → List RawOne
given (flats.One ones.Null) = []
given (flats.One one) = one ∷ []
given (flats.Many list) = list

-- as many values as a field may have: any number, or one at most
abbrev pub within_count : Bool → List Value → Option (List Value)
within_count many values = if many || nat_le (length values) 1 then Some values else None

-- the values that a field is given, which may be none
abbrev pub values_for : Kind → Bool → RawFlat → Option (List Value)
values_for kind many flat = option_and_then (within_count many) (values_in kind (given flat))

-- the values, of which there is one at least
abbrev pub not_empty : List Value → Option (List Value)
not_empty values = if nat_lt 0 (length values) then Some values else None

-- the values that a field is given, one at least
abbrev pub some_values_for : Kind → Bool → RawFlat → Option (List Value)
some_values_for kind many flat = option_and_then not_empty (values_for kind many flat)

-- a number that may be added to the value of the field
abbrev pub fitting_amount : Kind → Bool → ℤ → Option ℤ
fitting_amount kind many amount = if fits_amount kind many amount then Some amount else None

-- the number that is added to the value of a field: a whole number or its text, in no list
abbrev pub amount_for : Kind → Bool → RawFlat → Option ℤ
amount_for kind many (flats.One one) = option_and_then (fitting_amount kind many) (number_of one)
amount_for kind many (flats.Many list) = None

-- the change of this name
abbrev pub change_named : List ℕ → Kind → Bool → RawFlat → Option How
change_named name kind many flat =
    if bytes_eq name (codes "set") then option_map hows.Set (values_for kind many flat)
    else (if bytes_eq name (codes "add") then option_map hows.Add (some_values_for kind many flat)
    else (if bytes_eq name (codes "add-distinct") then option_map hows.AddDistinct (some_values_for kind many flat)
    else (if bytes_eq name (codes "remove") then option_map hows.Remove (some_values_for kind many flat)
    else (if bytes_eq name (codes "inc") then option_map hows.Inc (amount_for kind many flat)
    else None))))

-- how a member changes its field: a plain value sets it
abbrev pub how_of_value : Kind → Bool → RawValue → Option How
how_of_value kind many (raws.Plain flat) = option_map hows.Set (values_for kind many flat)
how_of_value kind many (raws.Change name flat) = change_named name kind many flat
