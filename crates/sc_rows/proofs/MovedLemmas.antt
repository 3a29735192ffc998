-- New numbers that follow one another, and what stands for them.
use Rattle.std.proofs.Common.{◌≡◌, ℕ, zero, suc, ◌+◌, ◌-◌, ◌<◌, ◌^◌, ◌==◌, Bool, false, cond, List, [], ◌∷◌, ◌++◌, map, Option, Some, None, refl, sym, ap, ◌∙◌, append_assoc, arith}
use Rattle.std.proofs.lemmas.Bool.Decides.{nat_tests}
use Rattle.std.proofs.lemmas.List.{map-append}
use Rattle.std.specs.List.{range_with_len}
use Rattle.sc_rows.specs.Moving.{number_meant, numbers_meant}

run-more : (first count last : ℕ) → first + count ≡ last → range_with_len first (suc count) ≡ range_with_len first count ++ last ∷ []
run-more first zero last place =
    let same : first ≡ last = omega (arith, place) in ap (λ (n : ℕ). n ∷ []) same
run-more first (suc count) last place = ap (λ (ns : List ℕ). first ∷ ns) (run-more (first + 1) count last (omega (arith, place)))

-- one number more of a run that is put at the end of a list
pub run-put : (list now next : List ℕ) (first count last : ℕ) → now ≡ list ++ range_with_len first count → next ≡ now ++ last ∷ [] → first + count ≡ last
    → next ≡ list ++ range_with_len first (count + 1)
run-put list now next first count last before after place =
    let more : suc count ≡ count + 1 = omega arith in
    after ∙ ap (λ (ns : List ℕ). ns ++ last ∷ []) before ∙ append_assoc list (range_with_len first count) (last ∷ [])
    ∙ ap (λ (ns : List ℕ). list ++ ns) (sym (run-more first count last place) ∙ ap (range_with_len first) more)

apart : (x y : ℕ) → x < y → (x == y) ≡ false
apart x y h = grind (arith, nat_tests)

-- a run that ends below the greatest number stands for its own numbers
run-meant : (first count : ℕ) → first + count < 2 ^ 32 → numbers_meant (range_with_len first count) ≡ map (λ number. Some number) (range_with_len first count)
run-meant first zero fits = refl
run-meant first (suc count) fits =
    ap (λ (b : Bool). cond b None (Some first) ∷ numbers_meant (range_with_len (first + 1) count)) (apart first (2 ^ 32 - 1) (omega (arith, fits)))
    ∙ ap (λ (os : List (Option ℕ)). Some first ∷ os) (run-meant (first + 1) count (omega (arith, fits)))

-- what stands for new numbers, with a run after it
pub run-pushed : (moved : List (Option ℕ)) (numbers next : List ℕ) (first count : ℕ) → numbers_meant numbers ≡ moved → next ≡ numbers ++ range_with_len first count
    → first + count < 2 ^ 32 → numbers_meant next ≡ moved ++ map (λ number. Some number) (range_with_len first count)
run-pushed moved numbers next first count before after fits =
    ap numbers_meant after ∙ map-append number_meant numbers (range_with_len first count)
    ∙ ap (λ (os : List (Option ℕ)). os ++ numbers_meant (range_with_len first count)) before
    ∙ ap (λ (os : List (Option ℕ)). moved ++ os) (run-meant first count fits)
