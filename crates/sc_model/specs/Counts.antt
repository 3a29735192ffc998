-- The counts among the parameters of a request.
use Rattle.std.specs.Prelude.{ℕ, ◌==◌, Bool, not, ◌&&◌, List, length, get_or, nat_lt, nat_le, if◌then◌else◌, Option, Some, None}
use Rattle.std.specs.Char.{is_ascii_digit}
use Rattle.std.specs.List.{list_all}
use Rattle.std.specs.Str.Parse.{digits_value}

-- the first of several digits is 0
abbrev pub has_leading_zero : List ℕ → Bool
has_leading_zero text = nat_lt 1 (length text) && get_or text 0 0 == 48

-- the text is a decimal number: one digit or more, with no sign before them and no zero before others
abbrev pub is_plain_decimal : List ℕ → Bool
is_plain_decimal text = nat_lt 0 (length text) && list_all is_ascii_digit text && not (has_leading_zero text)

-- the number of a decimal text, where it is at most the greatest
abbrev pub number_up_to : (most : ℕ) → List ℕ → Option ℕ
number_up_to most text = if is_plain_decimal text && nat_le (digits_value 10 text) most then Some (digits_value 10 text) else None

-- the count that a parameter gives, from 0 to the greatest; the usual one where it is not there
abbrev pub count_of : (usual most : ℕ) → Option (List ℕ) → Option ℕ
count_of usual most None = Some usual
count_of usual most (Some text) = number_up_to most text
