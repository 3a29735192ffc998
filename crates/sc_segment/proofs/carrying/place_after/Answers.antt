-- The place of an added key is its own, after those of the old keys.
use Rattle.std.proofs.Common.{◌≡◌, ◌+◌, ◌++◌, length, get_or, slice_get, sym, ap, ◌∙◌, rules, arith}
use Rattle.std.proofs.lemmas.List.{get_or_default}
use Rattle.sc_keys.proofs.StoringLemmas.{found-within, found-after, in_places, key_stored}
use Rattle.sc_segment.proofs.carrying.place_after.Goals as goal

pub bounds-places-at : goal.bounds-places-at
bounds-places-at g c =
    let here = found-within c.args.added.now.keys c.args.at c.requires in
    in_places c.args.added.now c.places.result.now c.places.ensures c.args.at here.0 here.1

pub offset_bounds-places-at : goal.offset_bounds-places-at
offset_bounds-places-at g c =
    let here = found-within c.args.added.now.keys c.args.at c.requires in
    let within = in_places c.args.added.now c.places.result.now c.places.ensures c.args.at here.0 here.1 in
    omega (arith, within, c.places.type_inv.1)

pub returns : goal.returns
returns g c =
    let here = found-within c.args.added.now.keys c.args.at c.requires in
    let places = c.places.result.now in
    let own = get_or places c.args.at 0 in
    let within = in_places c.args.added.now places c.places.ensures c.args.at here.0 here.1 in
    let is : own ≡ get_or places c.args.at own = get_or_default places c.args.at 0 own within in
    let sum : c.in_ok-place.place ≡ length c.args.old.now.stored + own = search rules in
    ap (slice_get (c.args.old.now.stored ++ c.args.added.now.stored)) sum
    ∙ found-after c.args.old.now.stored c.args.added.now.stored own
    ∙ key_stored c.args.added.now places c.places.ensures c.args.at here.0 here.1 own is
    ∙ sym here.1
