-- How long an id may be.
use Rattle.std.specs.Prelude.{ℕ}

-- the most bytes of an id
abbrev pub id_limit : ℕ
id_limit = 512
