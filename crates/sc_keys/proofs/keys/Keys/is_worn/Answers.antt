-- Where there is no need yet to share each key alone, few stored keys are gone, and there are few pieces.
use Rattle.std.proofs.Common.{◌≡◌, ℕ, ◌/◌, ◌≤◌, length, sym, ap, ◌∙◌, arith}
use Rattle.std.specs.Prelude.{max}
use Rattle.std.proofs.lemmas.Bool.{ltb-false}
use Rattle.sc_keys.proofs.StoringLemmas.{length-keys_at}
use Rattle.sc_keys.specs.Storing.{KeysState, stored_in}
use Rattle.sc_keys.proofs.keys.Keys.is_worn.Goals as goal

pub returns-else-len-gt-MOST_PIECES : goal.returns-else-len-gt-MOST_PIECES
returns-else-len-gt-MOST_PIECES g c = λ no.
    let inside = c.self.inside in
    let most = c.max.result in
    let gone = c.saturating_sub-gone.result in
    let within : gone ≤ most = ltb-false most gone no in
    let all = length-keys_at (stored_in inside.pieces.items) inside.places.items c.self.invariant.1 in
    let count : c.len-count.result ≡ length c.args.self.now.keys =
    c.len-count.ensures ∙ inside.places.ok.0 ∙ sym all ∙ ap (λ (s : KeysState _). length s.keys) c.self.view_is in
    let kept : most ≡ max (length c.args.self.now.keys / 16) 64 = c.max.ensures ∙ ap (λ (n : ℕ). max (n / 16) 64) count in
    let stored = ap (λ (s : KeysState _). length s.stored) c.self.view_is in
    let pieces = ap (λ (s : KeysState _). s.pieces) c.self.view_is in
    record {
      gone = omega (arith, within, count, kept, stored, c.self.invariant.0, c.saturating_sub-gone.ensures);
      few = omega (arith, pieces, c.if-len-gt-MOST_PIECES.false, c.len.ensures, inside.pieces.ok.0);
    }
