-- Those among the first orders are counted.
use Rattle.std.proofs.Common.{◌≡◌, count_by, take}
use Rattle.sc_record.specs.declared.order.Order.{Order}
use Rattle.sc_seen.specs.Batches.{deletes}
use Rattle.sc_update.proofs.shown.deletions.Given as goal

abbrev pub invariant-loop-order : goal.invariant-loop-order
invariant-loop-order l = l.count ≡ count_by (λ (order : Order). deletes order.change) (take l.order-index l.orders)
