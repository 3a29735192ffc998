-- So far the batches have the worker's orders of the first places.
use Rattle.std.proofs.Common.{◌≡◌}
use Rattle.sc_workload.specs.Batches.{IsFilling, filled_orders}
use Rattle.sc_workload.proofs.PlaceLemmas.{made_before}
use Rattle.sc_workload.proofs.share.orders.Given as goal

abbrev pub invariant-loop-place : goal.invariant-loop-place
invariant-loop-place l = record {
  orders : filled_orders l.batches ≡ made_before (record { seed = l.seed; count = l.count }) l.worker l.workers l.place;
  filling : IsFilling l.batches;
}
