-- The first core whose name comes later is found.
use Rattle.std.proofs.Common.{◌≡◌, ◌∙◌, true, false, ap, sym, subst, length, rules}
use Rattle.std.specs.List.{insert}
use Rattle.std.specs.Option.{unwrap_or}
use Rattle.std.proofs.lemmas.Iterator.{IsFirst-from_position, YieldsList-from_slice}
use borrow.Author.Tests.{tests}
use Rattle.sc_replica.specs.Core.{Core}
use Rattle.sc_replicas.specs.Cores.{put_by_name}
use Rattle.sc_replicas.proofs.FindLemmas.{IsFirstThat, first_from_search}
use Rattle.sc_replicas.proofs.ReplicasLemmas.{comes_after, put-found}
use Rattle.sc_replicas.proofs.replicas.Replicas.place_for.Goals as goal

pub returns-clause-place : goal.returns-clause-place
returns-clause-place c named same =
    let cores = c.self.inside.replicas.items in
    let found = first_from_search (comes_after c.args.core) cores c.position.result
    (IsFirst-from_position _ _ _ (λ (core : Core). comes_after c.args.core core ≡ true) (λ (core : Core). comes_after c.args.core core ≡ false)
    c.position.ensures.ran (YieldsList-from_slice cores cc) (λ x q k. search (rules, tests)) (λ x q k. search (rules, tests))) in
    let here : IsFirstThat (comes_after named.core) cores c.position.result =
    subst (λ name. IsFirstThat (comes_after name) cores c.position.result) (sym same) found in
    let at : c.unwrap_or.result ≡ unwrap_or c.position.result (length cores) =
    c.unwrap_or.ensures ∙ ap (unwrap_or c.position.result) (c.len.ensures ∙ sym c.deref.ensures.len ∙ ap length c.deref.ensures.value) in
    ap (λ these. insert these c.unwrap_or.result named) (sym c.self.view_is)
    ∙ ap (λ n. insert cores n named) at ∙ put-found named cores c.position.result here
    ∙ ap (put_by_name named) c.self.view_is
