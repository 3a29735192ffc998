-- Which rows are live.
use Rattle.std.specs.Prelude.{ℕ, ◌/◌, ◌%◌, ◌==◌, Bool, List, map, slice_index}
use Rattle.std.specs.Int.{bit_at}
use Rattle.std.specs.List.{range_with_len}

-- whether each row is live, by its bit in words of 64 rows each
abbrev pub live_rows : ℕ → List ℕ → List Bool
live_rows rows words = map (λ row. bit_at (slice_index words (row / 64)) (row % 64) == 1) (range_with_len 0 rows)
