-- What is left is the filter by the map's slices.
use Rattle.std.proofs.Common.{◌∙◌, filter, ap, rules}
use Rattle.std.proofs.lemmas.Fn.{filter_same}
use Rattle.sc_replica.specs.Core.{Core}
use Rattle.sc_replicas.specs.Cores.{is_of_one}
use Rattle.sc_replicas.proofs.replicas.Replicas.keep_of.Goals as goal

pub returns : goal.returns
returns c =
    let of_one = λ (core : Core). is_of_one c.args.slices.now core.core in
    filter_same _ of_one _ (λ x b f' k. search rules) _ _ c.retain.ensures.filtered
    ∙ ap (filter of_one) c.self.view_is
