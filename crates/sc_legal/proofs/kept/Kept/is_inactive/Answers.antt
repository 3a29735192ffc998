-- The slice that is found is the one of this id.
use Rattle.std.proofs.Common.{◌≡◌, ◌↔◌, Bool, IsTrue, sym, subst}
use Rattle.sc_cluster.specs.declared.slice.State.TheVariants as states
use Rattle.sc_legal.proofs.FoundLemmas.{inactive_test, inactive_where_found}
use Rattle.sc_legal.proofs.kept.Kept.is_inactive.Goals as goal

pub returns-in-Some : goal.returns-in-Some
returns-in-Some c =
    let slice = c.in-Some.slice.now in
    inactive_where_found c.args.self.now.map c.args.slice slice c.eq.result c.by_id.ensures.map c.in-Some.ensures.slice
    (subst (λ (test : Bool). IsTrue test ↔ (slice.state ≡ states.Inactive)) (sym c.eq.ensures) (inactive_test slice.state))
