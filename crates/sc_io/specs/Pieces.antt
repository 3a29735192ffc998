-- What a read takes from the bytes to come, and what a write adds to those that were given.
use Rattle.std.specs.Prelude.{◌≡◌, ℕ, List, ◌++◌, Option, Some}

-- the bytes begin with `prefix`, and what is reported then is all that comes after it
pub record TakesPrefix (prefix bytes : List ℕ) (after : Option (List ℕ)) : Type 0 where
  pub more : List ℕ
  pub whole : bytes ≡ prefix ++ more
  pub left : after ≡ Some more

-- what is reported then is the bytes and after them a prefix of the piece
pub record AddsPrefix (bytes piece : List ℕ) (after : Option (List ℕ)) : Type 0 where
  pub prefix : List ℕ
  pub left : List ℕ
  pub whole : piece ≡ prefix ++ left
  pub added : after ≡ Some (bytes ++ prefix)
