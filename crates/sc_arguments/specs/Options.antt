-- The options among words, and the numbers that they are given.
use Rattle.std.specs.Prelude.{ℕ, ◌^◌, ◌==◌, ◌&&◌, Bool, true, not, List, [], ◌∷◌, length, nat_lt, nat_le, if◌then◌else◌, Option, is_some, option_map, find}
use Rattle.std.specs.Char.{is_ascii_digit}
use Rattle.std.specs.List.{list_all, list_any, before_first, after_first}
use Rattle.std.specs.Option.{unwrap_or}
use Rattle.std.specs.Str.{bytes_eq}
use Rattle.std.specs.Str.Parse.{digits_value}

-- an option, and the value that it is given
abbrev pub Setting : Type 0
Setting = List ℕ × List ℕ

-- the byte is `=`
abbrev pub is_equals_sign : ℕ → Bool
is_equals_sign byte = byte == 61

-- an option and its value in one word, round its first `=`; where there is none, the value is empty
abbrev pub setting_of : List ℕ → Setting
setting_of word = (before_first is_equals_sign word, after_first is_equals_sign word)

-- The options among words: each is one word with `=`, or two words. One at the end that lacks its value has an empty one.
abbrev pub settings : List (List ℕ) → List Setting
settings [] = []
settings (word ∷ []) = setting_of word ∷ []
settings (word ∷ value ∷ words) = if list_any is_equals_sign word then setting_of word ∷ settings (value ∷ words) else (word, value) ∷ settings words

-- one to twenty decimal digits whose number has 64 bits
abbrev pub is_number : List ℕ → Bool
is_number text = nat_lt 0 (length text) && nat_le (length text) 20 && list_all is_ascii_digit text && nat_lt (digits_value 10 text) (2 ^ 64)

-- the number of a text; 0 where it is none
abbrev pub number_written : List ℕ → ℕ
number_written text = if is_number text then digits_value 10 text else 0

-- the value that an option is given
abbrev pub option_value : List ℕ → List Setting → Option (List ℕ)
option_value name given = option_map (λ (setting : Setting). setting.1) (find (λ (setting : Setting). bytes_eq setting.0 name) given)

-- the number that an option is given
abbrev pub number_given : List ℕ → List Setting → Option ℕ
number_given name given = option_map number_written (option_value name given)

-- the number that an option is given, or its default
abbrev pub number_or : ℕ → List ℕ → List Setting → ℕ
number_or default name given = unwrap_or (number_given name given) default

-- each has one of the names and a number for its value, and is given at most once
abbrev pub are_options : (names : List (List ℕ)) → List Setting → Bool
are_options names [] = true
are_options names ((name, value) ∷ given) = list_any (bytes_eq name) names && is_number value && not (is_some (option_value name given)) && are_options names given
