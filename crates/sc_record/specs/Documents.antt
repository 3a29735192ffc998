-- How a document is kept.
use Rattle.std.specs.Prelude.{◌≡◌, ℕ, ◌^◌, ◌<◌, List, [], length, Some}
use Rattle.sc_spelling.specs.Reading.{document_at, rest_of}

-- the bytes are the spelling of a document, whole, and fewer than 2^32
pub record IsWhole (bytes : List ℕ) : Type 0 where
  pub whole : rest_of (document_at bytes) ≡ Some []
  pub few : length bytes < 2 ^ 32
