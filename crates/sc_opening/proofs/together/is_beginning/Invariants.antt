-- The rest of the list is a beginning of the rest exactly where the list is one of the whole.
use Rattle.std.proofs.Common.{drop}
use Rattle.std.specs.Prelude.{◌↔◌}
use mathlib.Core.List.{IsPrefix}
use Rattle.sc_opening.proofs.together.is_beginning.Given as goal

abbrev pub invariant-loop-i : goal.invariant-loop-i
invariant-loop-i l = IsPrefix (drop l.i l.list) (drop l.i l.done) ↔ IsPrefix l.list l.done
