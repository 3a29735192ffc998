-- One head more.
use Rattle.std.proofs.Common.{ℕ, List, [], ◌∷◌, ◌++◌, map, take, sym, ap, ◌∙◌}
use Rattle.std.proofs.lemmas.List.{map_more}
use Rattle.sc_keys.proofs.keys.heads_of.Goals as goal

pub loop-key-preserved : goal.loop-key-preserved
loop-key-preserved g c =
    let heading = g.K.Key.heading in
    let keys = c.args.keys.now in
    let at = c.loop-key.key-index in
    c.in_ok-push.ensures.items
    ∙ ap (λ (hs : List ℕ). hs ++ c.head.result ∷ []) c.loop-key.invariant
    ∙ ap (λ (n : ℕ). map heading (take at keys) ++ n ∷ []) (c.head.ensures ∙ ap heading c.key-item.is)
    ∙ sym (map_more heading keys at c.key-item.result c.loop-key-test.true)
