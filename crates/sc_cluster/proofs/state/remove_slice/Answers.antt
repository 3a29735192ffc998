-- What is kept is what the filter keeps.
use Rattle.std.proofs.Common.{◌==◌, not, rules, tests}
use Rattle.std.proofs.lemmas.Fn.{filter_same}
use Rattle.sc_cluster.specs.declared.slice.Slice.{Slice}
use Rattle.sc_cluster.proofs.state.remove_slice.Goals as goal

pub returns : goal.returns
returns c = filter_same _ (λ (slice : Slice). not (slice.id.0 == c.args.id.0)) _ (λ x b f' k. search (rules, tests)) _ _ c.retain.ensures.filtered
