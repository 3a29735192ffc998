-- So far each replica is there and active, and so is the next, or not all are.
use Rattle.std.proofs.Common.{arith}
use Rattle.sc_world.proofs.ConditionLemmas.{active-next, all_keys, not_of_all_keys}
use Rattle.sc_world.proofs.condition.has_all.Goals as goal

pub returns-then-not-is_replica_active : goal.returns-then-not-is_replica_active
returns-then-not-is_replica_active c =
    not_of_all_keys c.args.bucket.now c.args.slice.now c.loop-below.below c.is_replica_active.result (omega arith)
    c.is_replica_active.ensures c.if-not-is_replica_active.true

pub loop-below-preserved : goal.loop-below-preserved
loop-below-preserved c =
    active-next c.args.bucket.now c.args.slice.now c.loop-below.below c.loop-below.invariant
    (c.is_replica_active.ensures.0 c.if-not-is_replica_active.false)

pub returns : goal.returns
returns c = all_keys c.args.bucket.now c.args.slice.now c.loop-below.below (omega arith) (omega arith) c.loop-below.invariant
