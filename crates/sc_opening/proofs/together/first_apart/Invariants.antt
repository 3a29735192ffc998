-- Each list so far is a beginning of what was done.
use Rattle.std.proofs.Common.{All, List, take}
use mathlib.Core.List.{IsPrefix}
use Rattle.sc_opening.specs.declared.change.Change.{Change}
use Rattle.sc_opening.proofs.together.first_apart.Given as goal

abbrev pub invariant-loop-i : goal.invariant-loop-i
invariant-loop-i l = All (λ (one : List Change). IsPrefix one l.done) (take l.i l.said)
