-- So far each replica is there, and active.
use Rattle.std.proofs.Common.{All}
use Rattle.sc_handover.specs.Conditions.{IsThereActive}
use Rattle.sc_world.proofs.ConditionLemmas.{keys_to}
use Rattle.sc_world.proofs.condition.has_all.Given as goal

abbrev pub invariant-loop-below : goal.invariant-loop-below
invariant-loop-below l = All (IsThereActive l.bucket) (keys_to l.slice l.below)
