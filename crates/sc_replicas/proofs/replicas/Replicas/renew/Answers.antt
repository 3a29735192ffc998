-- The new core took the number of the one in its place.
use Rattle.std.proofs.Common.{◌≡◌, ◌∙◌, set, refl, ap}
use Rattle.sc_replica.specs.Core.{Core}
use Rattle.sc_replicas.proofs.ChangedAtLemmas.{changed_at}
use Rattle.sc_replicas.proofs.replicas.Replicas.renew.Goals as goal

pub returns : goal.returns
returns c core there =
    let here : c.index.result.now ≡ core =
    changed_at (λ (one : Core). one) c.self.inside.replicas.items c.args.self.now c.args.at core c.index.result.now c.index.result.now
    c.self.view_is there c.index.ensures refl in
    ap (λ cores. set cores c.args.at c.set_number.new.self) c.self.view_is
    ∙ ap (set c.args.self.now c.args.at)
    (c.set_number.ensures.value ∙ ap (λ n. record c.args.fresh { number = n }) (c.number.ensures.value ∙ ap (λ (one : Core). one.number) here))
