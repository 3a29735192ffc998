-- What is kept is what the filter keeps.
use Rattle.std.proofs.Common.{not, rules}
use Rattle.std.proofs.lemmas.Fn.{filter_same}
use Rattle.sc_cluster.specs.declared.slice.Slice.{Slice}
use Rattle.sc_cluster.specs.Slices.{is_forming}
use Rattle.sc_cluster.proofs.state.remove_forming.Goals as goal

pub returns : goal.returns
returns c = filter_same _ (λ (slice : Slice). not (is_forming slice)) _ (λ x b f' k. search rules) _ _ c.retain.ensures.filtered
