-- `new`: the table as it is made meets the invariant.
use Rattle.std.proofs.Common.{rules, ap, sym, ◌∙◌, subst, ◌∷◌, [], length}
use Rattle.sc_lock.proofs.lock.Lock.new.Goals as goal
use Rattle.sc_lock.proofs.SeatLemmas.{opening_holds}

pub new-requires : goal.new-requires
new-requires g c =
    let same = c.of-origin.ensures in
    let long = c.entries.ensures ∙ ap (λ x. length (g.K.Kept.journal x)) (sym same) in
    opening_holds _ _ _ _ (ap (λ n. 0 ∷ 0 ∷ n ∷ []) long) (search rules)
    (subst g.K.Kept.sound (sym same) c.requires.sound)
