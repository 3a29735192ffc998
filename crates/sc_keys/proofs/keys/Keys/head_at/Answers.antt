-- The key with this number is the stored one, and its head is the one with its number.
use Rattle.std.proofs.Common.{◌≡◌, ◌<◌, length, slice_get, Some, refl, ap, ◌∙◌, arith}
use Rattle.std.proofs.lemmas.Option.{slice_get_read}
use Rattle.sc_keys.proofs.HeadLemmas.{head_of_key, heads_as_long}
use Rattle.sc_keys.proofs.StoringLemmas.{key_of_place}
use Rattle.sc_keys.specs.Storing.{KeysState, keys_at, stored_in}
use Rattle.sc_keys.proofs.keys.Keys.head_at.Goals as goal

pub index-requires-then-index-place : goal.index-requires-then-index-place
index-requires-then-index-place g c =
    let stored = stored_in c.self.inside.pieces.items in
    let places = c.self.inside.places.items in
    let as_long = heads_as_long g.K.Key.heading stored places c.self.inside.heads.items c.self.invariant.1 c.self.invariant.2 in
    omega (arith, as_long, c.if-at-len.true, c.len.ensures, c.self.inside.places.ok.0, c.self.inside.heads.ok.0)

pub returns-then-index-place : goal.returns-then-index-place
returns-then-index-place g c = λ key at.
    let stored = stored_in c.self.inside.pieces.items in
    let places = c.self.inside.places.items in
    let own = c.index.result.now in
    let within : c.args.at < length places = omega (arith, c.if-at-len.true, c.len.ensures, c.self.inside.places.ok.0) in
    let read = slice_get_read places (length places) c.args.at own refl within c.index.ensures in
    let found : slice_get (keys_at stored places) c.args.at ≡ Some key =
    key_of_place stored places c.args.at own c.self.invariant.1 read
    ∙ ap (slice_get stored) c.if-index-place.true
    ∙ ap (λ (s : KeysState _). slice_get s.stored c.args.place) c.self.view_is
    ∙ at in
    head_of_key g.K.Key.heading (keys_at stored places) c.self.inside.heads.items c.args.at c.index-then-index-place.result.now key c.self.invariant.2 found c.index-then-index-place.ensures
