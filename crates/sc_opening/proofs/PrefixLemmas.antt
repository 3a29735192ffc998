-- Lists of which one is a beginning of the other, item by item.
use Rattle.std.proofs.Common.{◌≡◌, ℕ, ◌+◌, ◌<◌, ◌≤◌, List, [], ◌∷◌, ◌++◌, length, get_or, drop, refl, sym, ap, ◌∙◌, subst, arith}
use Rattle.std.specs.Prelude.{◌↔◌}
use Rattle.std.proofs.lemmas.List.{drop_more, drop_all}
use mathlib.Core.List.{IsPrefix}

module _ {A : Type 0} where
  -- a list is a beginning of another where their first items are equal and its rest is one of the other's rest, and only there
  pub prefix_cons : (x y : A) (xs ys : List A) → x ≡ y → IsPrefix xs ys → IsPrefix (x ∷ xs) (y ∷ ys)
  prefix_cons x y xs ys same (rest, is) = (rest, ap (λ zs. x ∷ zs) is ∙ ap (λ z. z ∷ ys) same)

  pub prefix_head : (x y : A) (xs ys : List A) → IsPrefix (x ∷ xs) (y ∷ ys) → x ≡ y
  prefix_head x y xs ys (rest, is) = ap (λ zs. get_or zs 0 x) is

  pub prefix_tail : (x y : A) (xs ys : List A) → IsPrefix (x ∷ xs) (y ∷ ys) → IsPrefix xs ys
  prefix_tail x y xs ys (rest, is) = (rest, ap (λ zs. drop 1 zs) is)

  -- the rests of two lists from a place on, by their items there
  rests : (P : List A → List A → Type 0) (xs ys : List A) (i : ℕ) (x y : A) → i < length xs → i < length ys → x ≡ get_or xs i x
      → y ≡ get_or ys i y → P (x ∷ drop (i + 1) xs) (y ∷ drop (i + 1) ys) → P (drop i xs) (drop i ys)
  rests P xs ys i x y in_xs in_ys x_is y_is holds =
      let one : x ∷ drop (i + 1) xs ≡ drop i xs = ap (λ z. z ∷ drop (i + 1) xs) x_is ∙ sym (drop_more xs i x in_xs) in
      let other : y ∷ drop (i + 1) ys ≡ drop i ys = ap (λ z. z ∷ drop (i + 1) ys) y_is ∙ sym (drop_more ys i y in_ys) in
      subst (λ zs. P zs (drop i ys)) one (subst (P (x ∷ drop (i + 1) xs)) other holds)

  -- where the items at a place are equal, the rests from the next place on tell the same as those from it on
  pub prefix_step : (P : Type 0) (xs ys : List A) (i : ℕ) (x y : A) → i < length xs → i < length ys → x ≡ get_or xs i x → y ≡ get_or ys i y
      → x ≡ y → (IsPrefix (drop i xs) (drop i ys) ↔ P) → IsPrefix (drop (i + 1) xs) (drop (i + 1) ys) ↔ P
  prefix_step P xs ys i x y in_xs in_ys x_is y_is same (tells, told) = (
    λ next. tells (rests IsPrefix xs ys i x y in_xs in_ys x_is y_is (prefix_cons x y (drop (i + 1) xs) (drop (i + 1) ys) same next)),
    λ all. rests (λ one other. IsPrefix one other → IsPrefix (drop (i + 1) xs) (drop (i + 1) ys)) xs ys i x y in_xs in_ys x_is y_is
        (prefix_tail x y (drop (i + 1) xs) (drop (i + 1) ys)) (told all),
  )

  -- and where they are not, none is a beginning of the other
  pub prefix_apart : (P : Type 0) (xs ys : List A) (i : ℕ) (x y : A) → i < length xs → i < length ys → x ≡ get_or xs i x → y ≡ get_or ys i y
      → (x ≡ y → ⊥) → (IsPrefix (drop i xs) (drop i ys) ↔ P) → P → ⊥
  prefix_apart P xs ys i x y in_xs in_ys x_is y_is differ (tells, told) all =
      rests (λ one other. IsPrefix one other → ⊥) xs ys i x y in_xs in_ys x_is y_is
      (λ is. differ (prefix_head x y (drop (i + 1) xs) (drop (i + 1) ys) is)) (told all)

  -- past the end of the list nothing is left to tell
  pub prefix_end : (P : Type 0) (xs ys : List A) (i : ℕ) → length xs ≤ i → (IsPrefix (drop i xs) (drop i ys) ↔ P) → P
  prefix_end P xs ys i past (tells, told) =
      tells (subst (λ zs. IsPrefix zs (drop i ys)) (sym (drop_all i xs past)) (drop i ys, refl))

  -- a longer list is none of a shorter one
  pub prefix_length : (xs ys : List A) → IsPrefix xs ys → length xs ≤ length ys
  prefix_length xs ys (rest, is) = let whole = ap length is in omega (arith, whole, lengths xs rest) where
    lengths : (xs rest : List A) → length xs ≤ length (xs ++ rest)
    lengths [] rest = omega arith
    lengths (x ∷ xs) rest = let more = lengths xs rest in omega arith
