-- So far each slice's replicas are there and active, where a split is making the slice.
use Rattle.std.proofs.Common.{All, take}
use Rattle.sc_world.specs.Checks.{IsWholeSlice}
use Rattle.sc_world.proofs.condition.are_whole.Given as goal

abbrev pub invariant-loop-at : goal.invariant-loop-at
invariant-loop-at l = All (IsWholeSlice l.bucket) (take l.at l.bucket.map)
