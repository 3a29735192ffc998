-- The searcher of the slice is found.
use Rattle.std.proofs.Common.{◌≡◌, ◌≢◌, rules}
use Rattle.std.proofs.lemmas.Iterator.{first_from_find, YieldsList-from_slice}
use borrow.Author.Tests.{tests}
use Rattle.sc_replicas.specs.declared.standing.Standing.{Standing}
use Rattle.sc_replicas.proofs.StandingLemmas.{standing_is_found, standing_found_is}
use Rattle.sc_replicas.proofs.standing.searcher_for.Goals as goal

pub unwrap-requires : goal.unwrap-requires
unwrap-requires c =
    standing_is_found c.args.searchers.now c.args.slice c.find.result
    (first_from_find _ _ _ (λ (s : Standing). s.slice.0 ≡ c.args.slice.0) (λ (s : Standing). s.slice.0 ≢ c.args.slice.0)
    c.find.ensures.ran (YieldsList-from_slice c.args.searchers.now cc) (λ x q k. search (rules, tests)) (λ x q k. search (rules, tests)))
    c.requires

pub returns-clause-there : goal.returns-clause-there
returns-clause-there c =
    (standing_found_is c.args.searchers.now c.args.slice c.find.result c.unwrap.result
    (first_from_find _ _ _ (λ (s : Standing). s.slice.0 ≡ c.args.slice.0) (λ (s : Standing). s.slice.0 ≢ c.args.slice.0)
    c.find.ensures.ran (YieldsList-from_slice c.args.searchers.now cc) (λ x q k. search (rules, tests)) (λ x q k. search (rules, tests)))
    c.unwrap.ensures).0
