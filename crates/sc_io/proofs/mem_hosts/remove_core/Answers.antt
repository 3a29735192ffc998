-- What is kept is what the filter keeps.
use Rattle.std.proofs.Common.{not, rules, ◌∙◌, ap}
use Rattle.std.proofs.lemmas.Fn.{filter_same}
use Rattle.sc_io.specs.declared.hosts.Host.{Host}
use Rattle.sc_io.specs.Hosts.{is_core_on, without_core}
use Rattle.sc_io.proofs.mem_hosts.remove_core.Goals as goal

pub returns : goal.returns
returns c =
    c.from_vec.ensures
    ∙ filter_same _ (λ (host : Host). not (is_core_on c.args.node c.args.core.now host)) _ (λ x b f' k. search rules) _ _ c.retain.ensures.filtered
    ∙ ap (without_core c.args.node c.args.core.now) c.into_vec-cores.ensures
