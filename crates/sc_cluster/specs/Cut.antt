-- A range cut into parts of about the same size (a rule of this project's own).
use Rattle.std.specs.Prelude.{ℕ, zero, suc, ◌+◌, ◌*◌, ◌/◌, ◌^◌, ◌==◌, nat_le, if◌then◌else◌, ℤ, pos, ◌+ℤ◌, ◌-ℤ◌, unsigned_abs, List, [], ◌∷◌, ◌++◌}
use Rattle.std.specs.Int.{int_rem_euclid}
use Rattle.sc_hash.specs.Range.{size_of}

-- a number rounded down to a multiple of 2 ^ 16
abbrev pub rounded_down : ℤ → ℤ
rounded_down n = n -ℤ int_rem_euclid n (pos (2 ^ 16))

-- where share i of n begins, when the range's numbers are shared out evenly
abbrev pub share_start : ℤ → ℤ → ℕ → ℕ → ℤ
share_start min max n i = min +ℤ pos (i * unsigned_abs (size_of min max) / n)

-- where part i of n begins; large parts begin at a multiple of 2 ^ 16, so that ids of one prefix, whose 16 bits it
-- fixes, stay in one part
unfoldable pub border : ℤ → ℤ → ℕ → ℕ → ℤ
border min max n i =
    if i == 0 then min
    else if nat_le n i then max +ℤ pos 1
    else if nat_le (n * 2 ^ 20) (unsigned_abs (size_of min max)) then rounded_down (share_start min max n i)
    else share_start min max n i

-- part i, from 0: from its border to the next one less 1
abbrev pub part : ℤ → ℤ → ℕ → ℕ → ℤ × ℤ
part min max n i = (border min max n i, border min max n (i + 1) -ℤ pos 1)

-- the first k parts of n
abbrev pub first_parts : ℤ → ℤ → ℕ → ℕ → List (ℤ × ℤ)
first_parts min max n zero = []
first_parts min max n (suc k) = first_parts min max n k ++ part min max n k ∷ []

-- the parts of a range that is cut in n
abbrev pub cut : ℤ → ℤ → ℕ → List (ℤ × ℤ)
cut min max n = first_parts min max n n
