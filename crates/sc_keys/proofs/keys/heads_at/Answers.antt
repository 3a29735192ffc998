-- One head more, of the key at the next place, or the heads of a run of places.
use Rattle.std.proofs.Common.{◌≡◌, ◌<◌, ℕ, List, [], ◌∷◌, ◌++◌, length, map, take, slice_get, slice_index, Some, refl, sym, ap, ◌∙◌, arith}
use Rattle.std.proofs.lemmas.List.{get_or_default, map-append, take_all}
use Rattle.std.proofs.lemmas.List.Elements.{All-get_or}
use Rattle.std.proofs.lemmas.Option.{slice_get_read}
use Rattle.sc_keys.proofs.StoringLemmas.{take-place, found-within, key_of_place, length-keys_at}
use Rattle.sc_keys.proofs.HeadLemmas.{run_after, run_ends}
use Rattle.sc_keys.specs.Storing.{keys_at, stored_in}
use Rattle.sc_keys.proofs.keys.heads_at.Goals as goal

pub copying-preserved-then-is_empty : goal.copying-preserved-then-is_empty
copying-preserved-then-is_empty g c =
    let heading = g.K.Key.heading in
    let stored = stored_in c.args.pieces.now in
    let places = c.args.places.now in
    let keys = keys_at stored places in
    let at = c.copying.at in
    let place = slice_index places at in
    let within : at < length places = omega (arith, c.copying-test.true) in
    let low = All-get_or (λ (p : ℕ). p < length stored) places at 0 within c.requires.places in
    let here = found-within stored place low in
    let read = slice_get_read places (length places) at place refl within (get_or_default places at 0 place within) in
    let found : slice_get keys at ≡ Some here.0 = key_of_place stored places at place c.requires.places read ∙ here.1 in
    record {
      heads = c.push_reserved.ensures.items
          ∙ ap (λ (hs : List ℕ). hs ++ c.head_of-head.result ∷ []) c.copying.invariant.heads
          ∙ ap (λ (n : ℕ). map heading (take at keys) ++ n ∷ []) (c.head_of-head.ensures here.0 here.1)
          ∙ sym (ap (map heading) (take-place keys at here.0 found) ∙ map-append heading (take at keys) (here.0 ∷ []));
      room = omega (arith, c.copying.invariant.room, c.push_reserved.ensures.len, c.push_reserved.ensures.capacity);
      within = omega (arith, within);
    }

pub copying-preserved : goal.copying-preserved
copying-preserved g c =
    let heads = c.copying.heads in
    let run = c.heads_of_run-run in
    let extended = c.in_ok-extend_from_slice.ensures in
    record {
      heads = run_after g.K.Key.heading (stored_in c.args.pieces.now) c.args.old.now.stored c.args.added.now.stored c.args.places.now heads.items run.result.now
          c.extend_from_slice.new.self.items c.copying.at c.requires.stored c.requires.places run.ensures.are_places c.copying.invariant.heads run.ensures.heads extended.items;
      room = omega (arith, c.copying.invariant.room, extended.len, extended.capacity);
      within = run_ends c.args.places.now c.copying.at (length run.result.now) c.copying.invariant.within run.ensures.within;
    }

pub returns : goal.returns
returns g c =
    let keys = keys_at (stored_in c.args.pieces.now) c.args.places.now in
    let all = length-keys_at (stored_in c.args.pieces.now) c.args.places.now c.requires.places in
    c.copying.invariant.heads ∙ ap (map g.K.Key.heading) (take_all c.copying.at keys (omega (arith, all, c.copying-test.false)))
