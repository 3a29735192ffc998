-- The key is the stored one at its place.
use Rattle.std.proofs.Common.{◌<◌, ℕ, length, slice_get, refl, sym, ap, ◌∙◌, arith}
use Rattle.std.proofs.lemmas.List.Elements.{All-get_or}
use Rattle.std.proofs.lemmas.Option.{slice_get_read}
use Rattle.sc_keys.proofs.StoringLemmas.{length-keys_at, key_of_place}
use Rattle.sc_keys.specs.Storing.{KeysState, stored_in}
use Rattle.sc_keys.proofs.keys.Keys.get.Goals as goal

pub index-requires : goal.index-requires
index-requires g c =
    let all = length-keys_at (stored_in c.self.inside.pieces.items) c.self.inside.places.items c.self.invariant.1 in
    let seen = ap (λ (s : KeysState _). length s.keys) c.self.view_is in
    omega (arith, all, seen, c.requires, c.self.inside.places.ok.0)

pub stored_key-requires : goal.stored_key-requires
stored_key-requires g c =
    let stored = stored_in c.self.inside.pieces.items in
    let places = c.self.inside.places.items in
    let all = length-keys_at stored places c.self.invariant.1 in
    let seen = ap (λ (s : KeysState _). length s.keys) c.self.view_is in
    let within : c.args.at < length places = omega (arith, all, seen, c.requires) in
    let place = c.index.result.now in
    let low = All-get_or (λ (p : ℕ). p < length stored) places c.args.at place within c.self.invariant.1 in
    let count = ap (λ ps. length (stored_in ps)) c.deref.ensures.value in
    omega (arith, low, count, c.index.ensures)

pub returns : goal.returns
returns g c =
    let stored = stored_in c.self.inside.pieces.items in
    let places = c.self.inside.places.items in
    let all = length-keys_at stored places c.self.invariant.1 in
    let seen = ap (λ (s : KeysState _). length s.keys) c.self.view_is in
    let within : c.args.at < length places = omega (arith, all, seen, c.requires) in
    let place = c.index.result.now in
    let read = slice_get_read places (length places) c.args.at place refl within c.index.ensures in
    ap (λ (s : KeysState _). slice_get s.keys c.args.at) (sym c.self.view_is)
    ∙ key_of_place stored places c.args.at place c.self.invariant.1 read
    ∙ ap (λ ps. slice_get (stored_in ps) place) (sym c.deref.ensures.value)
    ∙ c.stored_key.ensures
