-- One lock more is that of a new bucket.
use Rattle.std.proofs.Common.{◌∙◌}
use Rattle.sc_shared.proofs.NewLockLemmas.{one_more}
use Rattle.sc_shared.proofs.collection.new_locks.Goals as goal

pub loop-number-preserved : goal.loop-number-preserved
loop-number-preserved c = record {
  lock_room = c.push_reserved.ensures.capacity ∙ c.loop-number.invariant.lock_room;
  pass_room = c.push_reserved-in-loop-number.ensures.capacity ∙ c.loop-number.invariant.pass_room;
  keeper_room = c.push_reserved-in-loop-number-2.ensures.capacity ∙ c.loop-number.invariant.keeper_room;
  badge_room = c.push_reserved-in-loop-number-3.ensures.capacity ∙ c.loop-number.invariant.badge_room;
  each = one_more c.args.buckets c.args.first.now c.args.limit c.loop-number.number _ c.in_ok-lock.field-0 _ c.loop-number.invariant.each
      c.in_ok-lock.ensures (record {
        locks = c.push_reserved.ensures.items;
        passes = c.push_reserved-in-loop-number.ensures.items;
        keepers = c.push_reserved-in-loop-number-2.ensures.items;
        badges = c.push_reserved-in-loop-number-3.ensures.items;
      });
}
