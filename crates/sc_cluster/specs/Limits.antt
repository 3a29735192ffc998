-- How many slices a map may have.
use Rattle.std.specs.Prelude.{ℕ}

-- the most slices of a map, and so the most parts of a range
abbrev pub most_slices : ℕ
most_slices = 256
