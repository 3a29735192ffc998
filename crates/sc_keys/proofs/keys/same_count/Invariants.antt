-- The numbers that were passed are the same in both.
use Rattle.std.proofs.Common.{◌≡◌, take}
use Rattle.sc_keys.proofs.keys.same_count.Given as goal

abbrev pub invariant-loop-at : goal.invariant-loop-at
invariant-loop-at l = take l.at l.one ≡ take l.at l.other
