-- The head is known, or else it is read from the stored key.
use Rattle.std.proofs.Common.{◌≡◌, List, slice_get, Some, sym, ap, subst, ◌∙◌}
use Rattle.sc_keys.proofs.keys.head_of.Goals as goal

pub returns-in-Some : goal.returns-in-Some
returns-in-Some g c = λ key at. c.in-Some.ensures key (subst (λ (ks : List _). slice_get ks c.args.place ≡ Some key) c.requires.stored at)

pub returns-in-None : goal.returns-in-None
returns-in-None g c = λ key at.
    let one : Some c.stored_key.result.now ≡ Some key = sym c.stored_key.ensures ∙ at in
    let same : c.stored_key.result.now ≡ key = cc in
    c.head.ensures ∙ ap g.K.Key.heading same
