-- A piece more is passed, or else the key is one of it.
use Rattle.std.proofs.Common.{◌≡◌, ◌-◌, ◌+◌, ◌<◌, ◌≤◌, ℕ, length, drop, get_or, slice_get, refl, sym, ap, subst, ◌∙◌, arith}
use Rattle.std.proofs.lemmas.List.{get_or_default}
use Rattle.std.proofs.lemmas.Option.{slice_get_read}
use Rattle.sc_keys.proofs.StoringLemmas.{piece-within, left-after, same-after, same-here}
use Rattle.sc_keys.specs.Storing.{keys_in, stored_in}
use Rattle.sc_keys.proofs.keys.stored_key.Goals as goal

pub passing-preserved : goal.passing-preserved
passing-preserved g c =
    let pieces = c.args.pieces.now in
    let at = c.passing.at in
    let rest = c.passing.rest in
    let i = c.passing.invariant in
    let tested = get_or pieces at c.index-pieces-at.result in
    let piece = get_or pieces at c.index-pieces-at-in-passing.result in
    let within = piece-within pieces at rest i.left in
    let is : piece ≡ get_or pieces at piece = get_or_default pieces at c.index-pieces-at-in-passing.result piece within in
    let one : piece ≡ tested = get_or_default pieces at c.index-pieces-at-in-passing.result c.index-pieces-at.result within in
    let count : c.len-rest.result ≡ length (keys_in piece) = c.len-rest.ensures ∙ c.deref-in-passing.result.now.ok.0 ∙ ap (λ v. length v.items) c.deref-in-passing.ensures in
    let test : c.len.result ≡ length (keys_in tested) = c.len.ensures ∙ c.deref.result.now.ok.0 ∙ ap (λ v. length v.items) c.deref.ensures in
    let past : length (keys_in piece) ≤ rest = omega (arith, test, ap (λ p. length (keys_in p)) one, c.passing-test.true) in
    record {
      left = subst (λ (n : ℕ). rest - n < length (stored_in (drop (at + 1) pieces))) (sym count) (left-after pieces at rest piece is i.left past);
      same = i.same ∙ same-after pieces at rest piece is i.left past ∙ sym (ap (λ (n : ℕ). slice_get (stored_in (drop (at + 1) pieces)) (rest - n)) count);
    }

pub returns : goal.returns
returns g c =
    let pieces = c.args.pieces.now in
    let at = c.passing.at in
    let rest = c.passing.rest in
    let i = c.passing.invariant in
    let tested = get_or pieces at c.index-pieces-at.result in
    let piece = get_or pieces at c.index-pieces-at-2.result in
    let within = piece-within pieces at rest i.left in
    let is : piece ≡ get_or pieces at piece = get_or_default pieces at c.index-pieces-at-2.result piece within in
    let one : piece ≡ tested = get_or_default pieces at c.index-pieces-at-2.result c.index-pieces-at.result within in
    let test : c.len.result ≡ length (keys_in tested) = c.len.ensures ∙ c.deref.result.now.ok.0 ∙ ap (λ v. length v.items) c.deref.ensures in
    let here : rest < length (keys_in piece) = omega (arith, test, ap (λ p. length (keys_in p)) one, c.passing-test.false) in
    let key = c.index.result.now in
    let read : key ≡ get_or (keys_in piece) rest key = c.index.ensures ∙ ap (λ v. get_or v.items rest key) c.deref-2.ensures in
    i.same ∙ same-here pieces at rest piece is i.left here ∙ slice_get_read (keys_in piece) (length (keys_in piece)) rest key refl here read
