-- The cut of a command.
use Rattle.std.specs.Prelude.{⊤}
use Rattle.sc_board.specs.Splits.{IsCut}
use Rattle.sc_admin.specs.declared.admin.Admin.{Admin}
use Rattle.sc_admin.specs.declared.admin.Admin.TheVariants as admins

-- where the command is a split, its cut has as many parts as it may
abbrev pub IsCutIfAny : Admin → Type 0
IsCutIfAny (admins.Split shard cut) = IsCut cut
IsCutIfAny admins.Status = ⊤
IsCutIfAny (admins.Delete shard) = ⊤
