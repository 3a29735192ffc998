-- Rows that keep their numbers.
use Rattle.std.proofs.Common.{◌≡◌, ℕ, ◌+◌, ◌-◌, ◌<◌, ◌≤◌, List, [], ◌∷◌, length, take, drop, Option, Some, refl, sym, ap, ◌∙◌, arith, ⊎_elim}
use Rattle.std.proofs.lemmas.Bool.{cases_lt}
use Rattle.std.proofs.lemmas.List.{drop-drop, drop-take}
use Rattle.std.proofs.lemmas.List.Elements.{All-nil, All-head, All-tail, All-drop, All-same}
use Rattle.std.specs.List.{cons_option, slice_range}
use Rattle.sc_rows.specs.Moving.{new_number, new_numbers, AreKept, AreOwn}

module _ (moved : List (Option ℕ)) where
  -- a row keeps its number
  abbrev IsOwn : ℕ → Type 0
  IsOwn row = new_number moved row ≡ Some row

  -- rows that keep their numbers are their own new numbers
  pub own-numbers : (rows : List ℕ) → AreOwn moved rows → new_numbers moved rows ≡ rows
  own-numbers [] own = refl
  own-numbers (r ∷ rs) own =
      ap (λ (number : Option ℕ). cons_option number (new_numbers moved rs)) (All-head IsOwn r rs own) ∙ ap (λ (ns : List ℕ). r ∷ ns) (own-numbers rs (All-tail IsOwn r rs own))

  pub own-kept : (rows : List ℕ) → AreOwn moved rows → AreKept moved rows
  own-kept rows own = ap length (own-numbers rows own)

  -- rows that keep their numbers, from a later place on
  own-later : (rows : List ℕ) (a b c : ℕ) → a ≤ b → b ≤ c → AreOwn moved (slice_range rows a c) → AreOwn moved (slice_range rows b c)
  own-later rows a b c first later own =
      let sum : c - a ≡ (b - a) + (c - b) = omega arith in
      let place : a + (b - a) ≡ b = omega arith in
      let part : slice_range rows b c ≡ drop (b - a) (slice_range rows a c) =
      ap (λ (n : ℕ). take (c - b) (drop n rows)) (sym place)
      ∙ ap (take (c - b)) (sym (drop-drop (b - a) a rows))
      ∙ sym (drop-take (b - a) (c - b) (drop a rows))
      ∙ ap (λ (n : ℕ). drop (b - a) (take n (drop a rows))) (sym sum) in
      All-same IsOwn (slice_range rows b c) (drop (b - a) (slice_range rows a c)) part (All-drop IsOwn (b - a) (slice_range rows a c) own)

  pub own-from : (rows : List ℕ) (a b c : ℕ) → a ≤ b → AreOwn moved (slice_range rows a c) → AreOwn moved (slice_range rows b c)
  own-from rows a b c first own = ⊎_elim
      (λ (past : c < b). let none : c - b ≡ 0 = omega arith in
      All-same IsOwn (slice_range rows b c) [] (ap (λ (n : ℕ). take n (drop b rows)) none) (All-nil IsOwn))
      (λ (later : b ≤ c). own-later rows a b c first later own)
      (cases_lt c b)
