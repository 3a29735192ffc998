-- The core that is found is the one of this name.
use Rattle.std.proofs.Common.{◌≡◌, ◌↔◌, ◌∙◌, Bool, IsTrue, sym, ap, subst}
use denote.Enum.Bare.{sameb}
use Rattle.sc_ulog.specs.contracts.mode.Mode as modes
use Rattle.sc_ulog.specs.declared.mode.Mode.{Mode}
use Rattle.sc_world.proofs.ConditionLemmas.{mode_test, in_mode_where_found}
use Rattle.sc_world.proofs.condition.is_in_mode.Goals as goal

pub returns-in-Some : goal.returns-in-Some
returns-in-Some c =
    let b = c.args.bucket.now in
    let core = c.get.result.now in
    let is : c.eq.result ≡ sameb modes.the_type core.mode c.args.mode =
    c.eq.ensures ∙ ap (λ (mode : Mode). sameb modes.the_type mode c.args.mode) c.mode.ensures.value in
    in_mode_where_found b c.args.core c.args.mode c.in-Some.at core c.eq.result c.requires c.in-Some.ensures c.get.ensures
    (subst (λ (test : Bool). IsTrue test ↔ (core.mode ≡ c.args.mode)) (sym is) (mode_test core.mode c.args.mode))
