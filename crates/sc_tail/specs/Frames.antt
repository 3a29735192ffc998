-- The frames of a file of a log: a mark, a length and a body each.
use Rattle.std.specs.Prelude.{ℕ, zero, suc, ◌+◌, ◌&&◌, ◌==◌, nat_lt, List, [], ◌∷◌, ◌++◌, length, take, drop, Option, Some, None, if◌then◌else◌}
use Rattle.std.specs.Int.{w64, to_le_bytes, from_le_bytes}
use Rattle.std.specs.List.{flat_map}

-- an open frame: the mark 1, the body's length in 8 bytes, the lowest first, and the body
abbrev pub frame : List ℕ → List ℕ
frame body = 1 ∷ to_le_bytes w64 (length body) ++ body

-- the frames of these bodies
abbrev pub frames : List (List ℕ) → List ℕ
frames bodies = flat_map frame bodies

-- the length that the 8 bytes after a mark tell
abbrev pub told_length : List ℕ → ℕ
told_length rest = from_le_bytes w64 (take 8 rest)

-- the body of a frame that is open, and what comes after it: its mark is 1, and the whole frame and one byte more stand there
abbrev pub first_frame : List ℕ → Option (List ℕ × List ℕ)
first_frame [] = None
first_frame (mark ∷ rest) =
    if mark == 1 && nat_lt (8 + told_length rest) (length rest) then Some (take (told_length rest) (drop 8 rest), drop (8 + told_length rest) rest) else None

-- of a frame and what comes after it: its body, and after it what is found there
abbrev pub open_on : (List ℕ → List (List ℕ)) → Option (List ℕ × List ℕ) → List (List ℕ)
open_on after None = []
open_on after (Some found) = found.0 ∷ after found.1

-- the bodies of the open frames from the first on up to one that isn't open, of at most so many
abbrev pub opened_within : ℕ → List ℕ → List (List ℕ)
opened_within zero bytes = []
opened_within (suc most) bytes = open_on (opened_within most) (first_frame bytes)

-- the bodies of the open frames from the first on up to one that isn't open
abbrev pub opened : List ℕ → List (List ℕ)
opened bytes = opened_within (length bytes) bytes

-- the place at which reading ends
abbrev pub end_of : List ℕ → ℕ
end_of bytes = length (frames (opened bytes))
