-- How many lines of a head have ended.
use Rattle.std.specs.Prelude.{◌≡◌, ℕ, ◌+◌, ◌==◌, List, [], ◌∷◌, ◌++◌, drop}
use Rattle.std.specs.List.{prefix_len, count_by}
use Rattle.httparse.specs.Ascii.{line_feed}
use Rattle.httparse.specs.Pieces.{is_newline}

-- the bytes from the request line on, without the empty lines before it
abbrev pub from_request_line : List ℕ → List ℕ
from_request_line bytes = drop (prefix_len is_newline bytes) bytes

-- how many lines have ended, the request line among them
abbrev pub line_ends : List ℕ → ℕ
line_ends bytes = count_by (λ b. b == line_feed) (from_request_line bytes)

-- the last byte ends the line of this number, which is 1 for the request line
pub record EndsLine (number : ℕ) (bytes : List ℕ) : Type 0 where
  pub before : List ℕ
  pub is : bytes ≡ before ++ line_feed ∷ []
  pub ended : line_ends before + 1 ≡ number
