-- One more node.
use Rattle.std.proofs.Common.{◌+◌, arith}
use Rattle.std.proofs.lemmas.Grind.{common_steps}
use Rattle.std.proofs.lemmas.List.FromFn.{map-range_with_len_more}
use Rattle.serde_json.specs.Data.{string}
use Rattle.sc_admin.specs.Status.{node_name}
use Rattle.sc_admin.proofs.status.nodes_value.Goals as goal

pub loop-before-preserved : goal.loop-before-preserved
loop-before-preserved c =
    let more = map-range_with_len_more (λ node. string (node_name node)) 1 c.loop-before.before (c.loop-before.before + 1) (omega arith) in
    grind (arith, common_steps, more)
