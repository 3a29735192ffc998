-- What is left is the filter of the cores other than this.
use Rattle.std.proofs.Common.{rules, ◌∙◌, not, List, ap}
use Rattle.std.specs.List.{filter}
use Rattle.std.proofs.lemmas.Fn.{filter_same}
use Rattle.sc_record.specs.declared.slice.CoreId.{CoreId}
use Rattle.sc_record.specs.Names.{is_core}
use Rattle.sc_legal.proofs.down.DownCores.remove.Goals as goal

pub returns : goal.returns
returns c =
    filter_same _ (λ (other : CoreId). not (is_core other c.args.core)) _ (λ x b f' k. search rules) _ _ c.retain.ensures.filtered
    ∙ ap (λ (cores : List CoreId). filter (λ (other : CoreId). not (is_core other c.args.core)) cores) c.self.view_is
