-- What is left is the filter of the cores of other slices.
use Rattle.std.proofs.Common.{rules, ◌∙◌, not, nat_eq, List, ap}
use Rattle.std.specs.List.{filter}
use Rattle.std.proofs.lemmas.Fn.{filter_same}
use Rattle.sc_record.specs.declared.slice.CoreId.{CoreId}
use Rattle.sc_legal.proofs.down.DownCores.remove_slice.Goals as goal

pub returns : goal.returns
returns c =
    filter_same _ (λ (other : CoreId). not (nat_eq other.slice.0 c.args.slice.0)) _ (λ x b f' k. search rules) _ _ c.retain.ensures.filtered
    ∙ ap (λ (cores : List CoreId). filter (λ (other : CoreId). not (nat_eq other.slice.0 c.args.slice.0)) cores) c.self.view_is
