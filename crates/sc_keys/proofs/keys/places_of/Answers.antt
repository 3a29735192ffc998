-- One place more.
use Rattle.std.proofs.Common.{◌<◌, ◌++◌, ◌∷◌, [], length, sym, ap, subst, ◌∙◌, arith}
use Rattle.std.proofs.lemmas.List.Elements.{All-push}
use Rattle.sc_keys.proofs.StoringLemmas.{take-place, found-within, keys_at-push}
use Rattle.sc_keys.specs.Storing.{ArePlaces, keys_at}
use Rattle.sc_keys.proofs.keys.places_of.Goals as goal

pub loop-at-preserved : goal.loop-at-preserved
loop-at-preserved g c =
    let keys = c.args.keys.now in
    let places = c.loop-at.places.items in
    let at = c.loop-at.at in
    let i = c.loop-at.invariant in
    let within : at < length keys = omega (arith, c.loop-at-test.true, c.requires) in
    let here = found-within keys at within in
    let longer = c.in_ok-push.ensures.items in
    record {
      are_places = subst (ArePlaces keys) (sym longer) (All-push (λ place. place < length keys) places at i.are_places within);
      keys = ap (keys_at keys) longer ∙ keys_at-push keys places at here.0 here.1 ∙ ap (λ ks. ks ++ here.0 ∷ []) i.keys ∙ sym (take-place keys at here.0 here.1);
    }
