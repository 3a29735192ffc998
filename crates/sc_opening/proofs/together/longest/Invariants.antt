-- The longest so far and the rest have the longest of all.
use Rattle.std.proofs.Common.{◌≡◌, drop}
use Rattle.std.specs.List.{fold}
use Rattle.sc_opening.specs.Collections.{longer, longest}
use Rattle.sc_opening.proofs.together.longest.Given as goal

abbrev pub invariant-loop-list : goal.invariant-loop-list
invariant-loop-list l = fold longer l.best (drop l.list-index l.said) ≡ longest l.said
