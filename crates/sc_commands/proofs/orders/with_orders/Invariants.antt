-- The orders so far, with those of the values that are left, are all.
use Rattle.std.proofs.Common.{◌≡◌, map}
use Rattle.sc_schema.specs.Documents.{content_of}
use Rattle.sc_commands.proofs.OrderLemmas.{with_rest}
use Rattle.sc_commands.proofs.orders.with_orders.Given as goal

abbrev pub invariant-loop-value : goal.invariant-loop-value
invariant-loop-value l = with_rest l.action (map content_of l.fn.orders) l.fn.values.items ≡ with_rest l.action (map content_of l.orders) l.value-iterator.rest.items
