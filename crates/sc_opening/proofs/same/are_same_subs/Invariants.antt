-- The rest of both is the same exactly where both are.
use Rattle.std.proofs.Common.{◌≡◌, drop}
use Rattle.std.specs.Cmp.Lexicographic.{pointwise}
use Rattle.sc_opening.specs.Same.{same_sub}
use Rattle.sc_opening.proofs.same.are_same_subs.Given as goal

abbrev pub invariant-loop-i : goal.invariant-loop-i
invariant-loop-i l = pointwise same_sub (drop l.i l.one) (drop l.i l.other) ≡ pointwise same_sub l.one l.other
