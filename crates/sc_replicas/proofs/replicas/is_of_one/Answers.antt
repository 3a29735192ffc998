-- The slice of its id is found.
use Rattle.std.proofs.Common.{◌∙◌}
use Rattle.sc_replicas.proofs.ReplicasLemmas.{of_one-found}
use Rattle.sc_replicas.proofs.replicas.is_of_one.Goals as goal

pub returns : goal.returns
returns c = c.is_some.ensures ∙ of_one-found c.args.slices.now c.args.core c.by_id.result c.by_id.ensures.slice
