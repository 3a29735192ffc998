-- One key more.
use Rattle.std.proofs.Common.{◌+◌, ◌++◌, ◌∷◌, [], take, sym, subst}
use Rattle.sc_keys.proofs.StoringLemmas.{take-place, alike-push}
use Rattle.sc_keys.specs.Storing.{AreAlike}
use Rattle.sc_keys.proofs.keys.Keys.renewed.Goals as goal

pub loop-at-preserved : goal.loop-at-preserved
loop-at-preserved g c =
    let order = g.K.Key.order in
    let old = c.args.self.now.keys in
    let at = c.loop-at.at in
    let keys = c.loop-at.keys.items in
    let shared = c.in_ok-shared.shared in
    subst (AreAlike order (take (at + 1) old)) (sym c.in_ok-push.ensures.items)
    (subst (λ ks. AreAlike order ks (keys ++ shared ∷ [])) (sym (take-place old at c.get.result.now c.get.ensures))
    (alike-push order (take at old) keys c.get.result.now shared c.loop-at.invariant c.in_ok-shared.ensures))
