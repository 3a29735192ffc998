-- There are as many keys as places.
use Rattle.std.proofs.Common.{length, sym, ap, ◌∙◌}
use Rattle.sc_keys.proofs.StoringLemmas.{length-keys_at}
use Rattle.sc_keys.specs.Storing.{KeysState, stored_in}
use Rattle.sc_keys.proofs.keys.Keys.len.Goals as goal

pub returns : goal.returns
returns g c =
    c.len.ensures ∙ c.self.inside.places.ok.0
    ∙ sym (length-keys_at (stored_in c.self.inside.pieces.items) c.self.inside.places.items c.self.invariant.1)
    ∙ ap (λ (s : KeysState _). length s.keys) c.self.view_is
