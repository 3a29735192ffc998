-- The parts of a composite id, and the bits of the hash that each of them gives
-- (Solr Reference Guide, "Document Routing"). A text is a list of bytes; `!` is 33 and `/` is 47.
use Rattle.std.specs.Prelude.{ℕ, ◌-◌, min, List, [], ◌∷◌, length, take, ◌&&◌, ◌||◌, is_some, ◌==◌, nat_eq, nat_le, if◌then◌else◌, Option, Some, None, count_by, sum_by, unwrap_or, Bool, false}
use Rattle.std.specs.List.{before_first, after_first, ends_with}
use Rattle.std.specs.Char.{is_ascii_digit}
use Rattle.std.specs.Str.{all_ascii_digits}
use Rattle.std.specs.Str.Parse.{digits_value}

-- what stands before the first such byte, and after it
abbrev pub before_mark : ℕ → List ℕ → List ℕ
before_mark mark text = before_first (λ b. b == mark) text

abbrev pub after_mark : ℕ → List ℕ → List ℕ
after_mark mark text = after_first (λ b. b == mark) text

-- how many such bytes a text has
abbrev pub occurrences : ℕ → List ℕ → ℕ
occurrences mark text = count_by (λ b. b == mark) text

-- the parts of an id: one without `!`, two with one `!` or with only a last `!!`, else three, of which the
-- third begins after the second `!` and keeps all further ones
unfoldable pub parts : List ℕ → List (List ℕ)
parts id =
    if occurrences 33 id == 0 then id ∷ []
    else if occurrences 33 id == 1 then before_mark 33 id ∷ after_mark 33 id ∷ []
    else if occurrences 33 id == 2 && ends_with nat_eq id (33 ∷ 33 ∷ []) then before_mark 33 id ∷ [] ∷ []
    else before_mark 33 id ∷ before_mark 33 (after_mark 33 id) ∷ after_mark 33 (after_mark 33 id) ∷ []

-- a decimal digit's value
abbrev pub digit_of : ℕ → Option ℕ
digit_of byte = if is_ascii_digit byte then Some (byte - 48) else None

-- the bit count that one or two decimal digits state, where it is at most 32
unfoldable pub stated_count : List ℕ → Option ℕ
stated_count text =
    if all_ascii_digits text && nat_le 1 (length text) && nat_le (length text) 2 && nat_le (digits_value 10 text) 32
    then Some (digits_value 10 text) else None

-- the bit count after a part's first `/`, where that one isn't its first byte
unfoldable pub count_in : List ℕ → Option ℕ
count_in part = if occurrences 47 part == 0 || length (before_mark 47 part) == 0 then None else stated_count (after_mark 47 part)

-- a part without its bit count
unfoldable pub key_part : List ℕ → List ℕ
key_part part = if is_some (count_in part) then before_mark 47 part else part

-- how many bits a part before the last asks for: what it states, or the number for parts that state none
unfoldable pub bits_of : ℕ → List ℕ → ℕ
bits_of unstated part = unwrap_or (count_in part) unstated

-- what a part gives: `count` bits of its key's hash, from bit `low` up, in their place
pub record Share : Type 0 where
  pub key : List ℕ
  pub low : ℕ
  pub count : ℕ

-- the shares of parts that have the lowest `left` bits among them: each before the last gives what it asks
-- for from the top down, but no more than is left, and the last gives the rest
abbrev pub shares_from : ℕ → ℕ → List (List ℕ) → List Share
shares_from unstated left [] = []
shares_from unstated left (last ∷ []) = record { key = last; low = 0; count = left } ∷ []
shares_from unstated left (part ∷ next ∷ rest) =
    let count = min (bits_of unstated part) left in
    record { key = key_part part; low = left - count; count = count } ∷ shares_from unstated (left - count) (next ∷ rest)

-- the shares of an id's parts: a part before the last that states no count asks for 16 bits where there are
-- two parts, and for 8 where there are three
unfoldable pub shares : List (List ℕ) → List Share
shares id_parts = shares_from (if length id_parts == 2 then 16 else 8) 32 id_parts

-- the shares of the parts before the last
unfoldable pub fixed_shares : List (List ℕ) → List Share
fixed_shares id_parts = take (length (shares id_parts) - 1) (shares id_parts)

-- how many bits the last part gives
unfoldable pub last_bits : List (List ℕ) → ℕ
last_bits id_parts = 32 - sum_by (λ share. share.count) (fixed_shares id_parts)

-- the last of several parts is empty
unfoldable pub ends_open : List (List ℕ) → Bool
ends_open (first ∷ last ∷ []) = length last == 0
ends_open (first ∷ second ∷ last ∷ []) = length last == 0
ends_open _ = false

-- how many of the lowest bits are left open: those of an empty last part after other parts, and else none
unfoldable pub open_bits : List (List ℕ) → ℕ
open_bits id_parts = if ends_open id_parts then last_bits id_parts else 0
