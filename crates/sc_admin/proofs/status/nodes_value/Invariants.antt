-- The names of the nodes so far.
use Rattle.std.proofs.Common.{◌≡◌, map}
use Rattle.std.specs.List.{range_with_len}
use Rattle.serde_json.specs.Data.{string}
use Rattle.serde_json.specs.View.{view}
use Rattle.sc_admin.specs.Status.{node_name}
use Rattle.sc_admin.proofs.status.nodes_value.Given as goal

abbrev pub invariant-loop-before : goal.invariant-loop-before
invariant-loop-before l = map view l.items.items ≡ map (λ node. string (node_name node)) (range_with_len 1 l.before)
