-- A clock that has its timestamps in a list.
use Rattle.std.specs.Prelude.{ℕ, ◌+◌, List, length, nat_lt, if◌then◌else◌}

-- the place after this one, and at the last place that place again
abbrev pub next_moment : List ℕ → ℕ → ℕ
next_moment moments at = if nat_lt (at + 1) (length moments) then at + 1 else at
