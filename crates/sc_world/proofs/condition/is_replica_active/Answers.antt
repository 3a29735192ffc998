-- It is the core of this name.
use Rattle.sc_world.proofs.ConditionLemmas.{there_active}
use Rattle.sc_world.proofs.condition.is_replica_active.Goals as goal

pub returns : goal.returns
returns c = there_active c.args.bucket.now _ c.is_in_mode.result c.is_in_mode.ensures
