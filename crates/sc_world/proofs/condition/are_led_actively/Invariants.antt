-- So far each slice's leader is there and active, where a split is making the slice.
use Rattle.std.proofs.Common.{All, take}
use Rattle.sc_world.specs.Checks.{IsLedActively}
use Rattle.sc_world.proofs.condition.are_led_actively.Given as goal

abbrev pub invariant-loop-at : goal.invariant-loop-at
invariant-loop-at l = All (IsLedActively l.bucket) (take l.at l.bucket.map)
