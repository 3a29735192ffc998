-- Rows that are kept in pieces.
use Rattle.std.specs.Prelude.{◌≡◌, ℕ, ◌+◌, ◌-◌, ◌<◌, ◌≤◌, List, map, length, take, drop, slice_get, Some}
use Rattle.std.specs.Arc.{arc_value}
use Rattle.std.specs.List.{flat_map}
use Rattle.sc_record.specs.Writes.{Write}
use Rattle.sc_snapshot.specs.declared.pieces.Piece.{Piece}

-- the rows of a piece
abbrev pub rows_in : Piece → List Write
rows_in piece = map arc_value (arc_value piece.cells)

-- the rows of all pieces
abbrev pub rows_of : List Piece → List Write
rows_of pieces = flat_map rows_in pieces

-- each piece ends after so many rows
abbrev pub HaveEnds : List Piece → Type 0
HaveEnds pieces = (place : ℕ) (piece : Piece) → slice_get pieces place ≡ Some piece
    → piece.end ≡ length (rows_of (take (place + 1) pieces))

-- the number of the first row of a piece
abbrev pub start_of : Piece → ℕ
start_of piece = piece.end - length (rows_in piece)

-- the piece is a part of the rows, and has the row with this number
pub record HasRow (rows : List Write) (at : ℕ) (piece : Piece) : Type 0 where
  pub fits : length (rows_in piece) ≤ piece.end
  pub start : start_of piece ≤ at
  pub within : at < piece.end
  pub bounded : piece.end ≤ length rows
  pub part : rows_in piece ≡ take (length (rows_in piece)) (drop (start_of piece) rows)
