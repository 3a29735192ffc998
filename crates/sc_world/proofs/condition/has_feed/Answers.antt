-- A core has a feed where the search finds one.
use Rattle.std.proofs.Common.{Bool, not, IsTrue, ◌↔◌, sym, subst}
use Rattle.sc_handover.specs.Conditions.{CanFeed, IsUnfed}
use Rattle.sc_world.proofs.ConditionLemmas.{fed_from_found, unfed_from_found}
use Rattle.sc_world.proofs.condition.has_feed.Goals as goal

pub returns-clause-fed : goal.returns-clause-fed
returns-clause-fed c =
    subst (λ (test : Bool). IsTrue test ↔ CanFeed c.args.bucket.now c.args.core) (sym c.is_some.ensures)
    (fed_from_found c.args.bucket.now c.args.core c.position.result c.position.ensures)

pub returns-clause-unfed : goal.returns-clause-unfed
returns-clause-unfed c =
    subst (λ (test : Bool). IsTrue (not test) ↔ IsUnfed c.args.bucket.now c.args.core) (sym c.is_some.ensures)
    (unfed_from_found c.args.bucket.now c.args.core c.position.result c.position.ensures)
