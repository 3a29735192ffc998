-- What a contract sees of an update log.
use Rattle.std.specs.Prelude.{◌≡◌, ℕ, List, []}
use Rattle.sc_ulog.specs.declared.mode.Mode.{Mode}
use Rattle.sc_ulog.specs.declared.mode.Mode.TheVariants.{Active}

-- an update log: what it holds, the oldest entry first, its mode, and how many more entries it has room for
pub record LogState (E : Type 0) : Type 0 where
  pub entries : List E
  pub mode : Mode
  pub spare : ℕ

-- in mode Active there are no entries
abbrev pub IsEmptyWhereActive : {E : Type 0} → Mode → List E → Type 0
IsEmptyWhereActive mode entries = mode ≡ Active → entries ≡ []
