-- The ranges that a text lists (Solr Reference Guide, "Collections API", SPLITSHARD).
use Rattle.std.specs.Prelude.{ℕ, ◌==◌, Bool, ◌&&◌, List, [], ◌∷◌, length, map, nat_lt, nat_le, if◌then◌else◌, Option, Some, None, ℤ, int_le}
use Rattle.std.specs.Char.{digit_value}
use Rattle.std.specs.List.{list_all, before_first, after_first}
use Rattle.std.specs.Option.{option_map}
use Rattle.sc_hash.specs.Range.{bound_of}
use Rattle.sc_board.specs.Splits.{least_parts, most_parts}
use Rattle.sc_model.specs.Parameters.{between_commas}

-- the text is one to eight hexadecimal digits, in either case
abbrev pub is_bound : List ℕ → Bool
is_bound text = nat_lt 0 (length text) && nat_le (length text) 8 && list_all (λ byte. nat_lt (digit_value byte) 16) text

-- the range from one bound to another, where both are bounds and in order
abbrev pub range_between : List ℕ → List ℕ → Option (ℤ × ℤ)
range_between low high =
    if is_bound low && is_bound high && int_le (bound_of low) (bound_of high) then Some (bound_of low, bound_of high) else None

-- the byte is a dash
abbrev pub is_dash : ℕ → Bool
is_dash byte = byte == 45

-- the range that a text stands for: two bounds with a `-` between them
abbrev pub range_of : List ℕ → Option (ℤ × ℤ)
range_of text = range_between (before_first is_dash text) (after_first is_dash text)

-- the values, where all are there
abbrev pub all_some : {X : Type 0} → List (Option X) → Option (List X)
all_some [] = Some []
all_some (None ∷ values) = None
all_some (Some value ∷ values) = option_map (λ rest. value ∷ rest) (all_some values)

-- the number of parts is one that a cut may have
abbrev pub may_be_parts : ℕ → Bool
may_be_parts n = nat_le least_parts n && nat_le n most_parts

-- the ranges between the commas of a text, where all are ranges, and as many as a cut may have
abbrev pub ranges_of : List ℕ → Option (List (ℤ × ℤ))
ranges_of text = if may_be_parts (length (between_commas text)) then all_some (map range_of (between_commas text)) else None
