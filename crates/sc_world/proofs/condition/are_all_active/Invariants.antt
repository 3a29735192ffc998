-- So far each core is active.
use Rattle.std.proofs.Common.{◌≡◌, All, take}
use Rattle.sc_ulog.specs.declared.mode.Mode.TheVariants.{Active}
use Rattle.sc_replica.specs.Core.{Core}
use Rattle.sc_world.proofs.condition.are_all_active.Given as goal

abbrev pub invariant-loop-at : goal.invariant-loop-at
invariant-loop-at l = All (λ (core : Core). core.mode ≡ Active) (take l.at l.bucket.replicas)
