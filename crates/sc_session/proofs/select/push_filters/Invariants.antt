-- The texts so far, and those of the parameters that are left.
use Rattle.std.proofs.Common.{◌≡◌, ◌++◌, drop, filter, map, codes}
use Rattle.std.specs.Str.{bytes_eq}
use Rattle.sc_model.specs.declared.message.Param.{Param}
use Rattle.sc_session.proofs.select.push_filters.Given as goal

abbrev pub invariant-loop-param : goal.invariant-loop-param
invariant-loop-param l =
    l.texts ++ map (λ (param : Param). param.value)
    (filter (λ (param : Param). bytes_eq param.name (codes "fq")) (drop l.param-index l.params))
    ≡ l.fn.texts ++ map (λ (param : Param). param.value) (filter (λ (param : Param). bytes_eq param.name (codes "fq")) l.params)
