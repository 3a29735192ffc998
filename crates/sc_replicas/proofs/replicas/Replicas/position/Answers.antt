-- The first core of this name is found.
use Rattle.std.proofs.Common.{◌≡◌, subst, rules, true, false}
use Rattle.std.proofs.lemmas.Iterator.{IsFirst-from_position, YieldsList-from_slice}
use borrow.Author.Tests.{tests}
use Rattle.sc_replica.specs.Core.{Core}
use Rattle.sc_record.specs.Names.{is_core}
use Rattle.sc_replicas.proofs.CoreLemmas.{IsCoreFound, core_found}
use Rattle.sc_replicas.proofs.replicas.Replicas.position.Goals as goal

pub returns : goal.returns
returns c =
    subst (λ cores. IsCoreFound cores c.args.core c.position.result) c.self.view_is
    (core_found c.self.inside.replicas.items c.args.core c.position.result
    (IsFirst-from_position _ _ _ (λ (core : Core). is_core c.args.core core.core ≡ true) (λ (core : Core). is_core c.args.core core.core ≡ false)
    c.position.ensures.ran (YieldsList-from_slice c.self.inside.replicas.items cc)
    (λ x q k. search (rules, tests)) (λ x q k. search (rules, tests))))
