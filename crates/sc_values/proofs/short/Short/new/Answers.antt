use Rattle.std.proofs.Common.{◌≡◌, ◌∙◌, ◌≤◌, List, ℕ, ◌++◌, length, sym, subst}
use Rattle.std.specs.Prelude.{drop, replicate, IsUtf8}
use Rattle.sc_values.specs.Shorts.{IsShort}
use Rattle.sc_values.proofs.ShortLemmas.{padded-written}
use Rattle.sc_values.proofs.short.Short.new.Goals as goal

pub invariant_of-result : goal.invariant_of-result
invariant_of-result c =
    let text : List ℕ = c.args.text.now in
    let rest : List ℕ = drop (length text) (replicate 14 0) in
    let same : c.copy_from_slice.new.self ≡ text = c.copy_from_slice.ensures.after ∙ c.as_bytes.ensures.value in
    let (first, whole) = padded-written 14 text in
    let few : length text ≤ 14 = c.if-length-gt-MAX_SHORT_LENGTH.false in
    let made : IsShort (length text) (text ++ rest) =
    record { few = few; utf8 = subst (λ (bytes : List ℕ). ∥ IsUtf8 bytes ∥₁) (sym first) ∣ c.utf8.text ∣₁; zeros = whole } in
    subst (λ (start : List ℕ). IsShort (length text) (start ++ rest)) (sym same) made
