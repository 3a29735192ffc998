-- What a count begins on.
use Rattle.std.specs.Prelude.{◌≡◌, ℕ, ◌<◌}
use Rattle.std.specs.declared.sync.ledger.Blank.{Blank}

-- a blank ledger of this name, cut into so many parts
pub record IsFresh (blank : Blank) (name parts : ℕ) : Type 0 where
  pub named : blank.name ≡ name
  pub cut : blank.parts ≡ parts
  pub some : 0 < blank.parts
