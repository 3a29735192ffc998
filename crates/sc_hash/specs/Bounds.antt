-- A range as the pair of its least and its greatest number.
use Rattle.std.specs.Prelude.{ℤ, int_le, ◌&&◌, Bool}
use Rattle.sc_hash.specs.declared.range.Range.{Range}

-- the least and the greatest number of a range
abbrev pub bounds : Range → ℤ × ℤ
bounds range = (range.min, range.max)

-- whether a range has the number
abbrev pub contains : ℤ → ℤ × ℤ → Bool
contains h (min, max) = int_le min h && int_le h max
