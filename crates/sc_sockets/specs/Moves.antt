-- Which crews are out, by the moves that were made.
use Rattle.std.specs.Prelude.{ℕ, Bool, false, List, nat_eq, fold, if◌then◌else◌}

-- whether the crew of this number is out after a move, which has the number of its worker and whether it was given
abbrev pub after_move : ℕ → Bool → ℕ × Bool → Bool
after_move number was move = if nat_eq move.0 number then move.1 else was

-- whether the crew of this number is out: whether the last of its moves gave it
abbrev pub was_given : List (ℕ × Bool) → ℕ → Bool
was_given moves number = fold (after_move number) false moves
