-- How many rows a join of two lists of rows keeps, and the first of them, without the join.
use Rattle.std.proofs.Common.{◌≡◌, ℕ, zero, suc, ◌+◌, ◌<◌, ◌≤◌, Bool, true, false, not, ◌||◌, cond, List, [], ◌∷◌, ◌++◌, length, take, drop, append-nil, refl, sym, ap, ◌∙◌, arith, ◌⊎◌, ⊎_elim}
use Rattle.std.proofs.lemmas.List.{take-take, take_all, take_at, take-append-drop, length-append, length-take, get_or-take}
use Rattle.std.proofs.lemmas.List.Elements.{filter-append}
use Rattle.std.proofs.Math.ListN.{drop_of_length-le}
use Rattle.std.specs.List.Sorted.{IsStrictlyIncreasing}
use Rattle.std.specs.Ordering.{nat_cmp, match_ordering}
use Rattle.std.specs.declared.cmp.Ordering.{Ordering}
use Rattle.std.specs.declared.cmp.Ordering.TheVariants.{Less, Equal, Greater}
use Rattle.sc_rows.specs.declared.joining.Kept.TheVariants.{Either}
use Rattle.sc_rows.specs.Joining.{has_row, keeps, IsJoin}
use Rattle.sc_rows.specs.Sifting.{sifted}
use Rattle.sc_rows.proofs.SiftingLemmas.{is_same, is_other}
use Rattle.sc_rows.proofs.JoinLemmas.{AscendFrom, joined, ascend_from_increasing, less_from_cmp, equal_from_cmp, greater_from_cmp, none_below, IsJoin-joined}
use Rattle.sc_rows.proofs.SameRowsLemmas.{same_rows}

-- the rows of both lists in order, each once
abbrev pub united : List ℕ → List ℕ → List ℕ
united xs ys = joined (keeps Either) xs ys

-- the first rows of both lists decide the first ones of their union
pub take-united : (n a b : ℕ) (xs ys : List ℕ) → n ≤ a → n ≤ b → take n (united xs ys) ≡ take n (united (take a xs) (take b ys))
take-united zero a b xs ys low high = refl
take-united (suc n) zero b xs ys low high = absurd (omega (arith, low))
take-united (suc n) (suc a) zero xs ys low high = absurd (omega (arith, high))
take-united (suc n) (suc a) (suc b) [] ys low high = sym (take-take (suc n) (suc b) ys high)
take-united (suc n) (suc a) (suc b) (x ∷ xs) [] low high = ap (λ (zs : List ℕ). x ∷ zs) (sym (take-take n a xs (omega (arith, low))))
take-united (suc n) (suc a) (suc b) (x ∷ xs) (y ∷ ys) low high =
    let whole : Ordering → List ℕ = λ o. match_ordering o (x ∷ united xs (y ∷ ys)) (x ∷ united xs ys) (y ∷ united (x ∷ xs) ys) in
    let first : Ordering → List ℕ = λ o. match_ordering o
    (x ∷ united (take a xs) (y ∷ take b ys)) (x ∷ united (take a xs) (take b ys)) (y ∷ united (x ∷ take a xs) (take b ys)) in
    elim (nat_cmp x y) as (λ o. take (suc n) (whole o) ≡ take (suc n) (first o)) [
      | Less ↦ ap (λ (zs : List ℕ). x ∷ zs) (take-united n a (suc b) xs (y ∷ ys) (omega (arith, low)) (omega (arith, high)))
      | Equal ↦ ap (λ (zs : List ℕ). x ∷ zs) (take-united n a b xs ys (omega (arith, low)) (omega (arith, high)))
      | Greater ↦ ap (λ (zs : List ℕ). y ∷ zs) (take-united n (suc a) b (x ∷ xs) ys (omega (arith, low)) (omega (arith, high)))
    ]

-- of these rows those that the others have not
abbrev beside : List ℕ → List ℕ → List ℕ
beside others rows = sifted others false rows

beside-nil : (xs : List ℕ) → beside [] xs ≡ xs
beside-nil [] = refl
beside-nil (x ∷ xs) = ap (λ (zs : List ℕ). x ∷ zs) (beside-nil xs)

-- a row below all of them is none of them
beside-above : (y low : ℕ) (xs ys : List ℕ) → y < low → AscendFrom low xs → beside (y ∷ ys) xs ≡ beside ys xs
beside-above y low [] ys lt up = refl
beside-above y low (x ∷ xs) ys lt up =
    let first = up.0 in
    let here : y < x = omega (arith, lt, first) in
    let rest = beside-above y (x + 1) xs ys (omega (arith, here)) up.1 in
    ap (λ b. cond (not (b || has_row ys x)) (x ∷ beside (y ∷ ys) xs) (beside (y ∷ ys) xs)) (is_other y x (λ same. omega (arith, same, here)))
    ∙ ap (λ (zs : List ℕ). cond (not (has_row ys x)) (x ∷ zs) zs) rest

beside-first : (x : ℕ) (xs ys : List ℕ) (b : Bool) → has_row ys x ≡ b → beside ys (x ∷ xs) ≡ cond (not b) (x ∷ beside ys xs) (beside ys xs)
beside-first x xs ys b is = ap (λ b. cond (not b) (x ∷ beside ys xs) (beside ys xs)) is

length-onto : (x : ℕ) (xs : List ℕ) → ((l : ℕ) (ys : List ℕ) → AscendFrom l ys → length (united xs ys) ≡ length ys + length (beside ys xs))
    → AscendFrom x (x ∷ xs) → (l : ℕ) (ys : List ℕ) → AscendFrom l ys → length (united (x ∷ xs) ys) ≡ length ys + length (beside ys (x ∷ xs))
length-onto x xs rest up l [] others =
    let all = ap (λ (zs : List ℕ). length zs) (beside-nil (x ∷ xs)) in
    omega (arith, all)
length-onto x xs rest up l (y ∷ ys) others =
    let whole : Ordering → List ℕ = λ o. match_ordering o (x ∷ united xs (y ∷ ys)) (x ∷ united xs ys) (y ∷ united (x ∷ xs) ys) in
    elim (nat_cmp x y) as (λ o. nat_cmp x y ≡ o → length (whole o) ≡ length (y ∷ ys) + length (beside (y ∷ ys) (x ∷ xs))) [
      | Less ↦ λ h.
          let lt = less_from_cmp x y h in
          let none = none_below x y (y ∷ ys) lt (omega arith, others.1) in
          let here = ap (λ (zs : List ℕ). length zs) (beside-first x xs (y ∷ ys) false none) in
          let more = rest l (y ∷ ys) others in
          omega (arith, here, more)
      | Equal ↦ λ h.
          let same = equal_from_cmp x y h in
          let has : has_row (y ∷ ys) x ≡ true = ap (λ b. b || has_row ys x) (is_same y x (sym same)) in
          let here = ap (λ (zs : List ℕ). length zs) (beside-first x xs (y ∷ ys) true has) in
          let past = ap (λ (zs : List ℕ). length zs) (beside-above y (x + 1) xs ys (omega (arith, same)) up.1) in
          let more = rest (y + 1) ys others.1 in
          omega (arith, here, past, more)
      | Greater ↦ λ h.
          let lt = greater_from_cmp x y h in
          let past = ap (λ (zs : List ℕ). length zs) (beside-above y x (x ∷ xs) ys lt up) in
          let more = length-onto x xs rest up (y + 1) ys others.1 in
          omega (arith, past, more)
    ] refl

length-united : (low : ℕ) (xs : List ℕ) → AscendFrom low xs → (l : ℕ) (ys : List ℕ) → AscendFrom l ys
    → length (united xs ys) ≡ length ys + length (beside ys xs)
length-united low [] up l ys others = omega arith
length-united low (x ∷ xs) up l ys others = length-onto x xs (length-united (x + 1) xs up.1) (omega arith, up.1) l ys others

-- a union has the rows of the right list and those that the left one has beside them
pub count-united : (left right : List ℕ) → IsStrictlyIncreasing left → IsStrictlyIncreasing right
    → length (united left right) ≡ length right + length (sifted right false left)
count-united left right up others =
    length-united 0 left (ascend_from_increasing left up) 0 right (ascend_from_increasing right others)

-- the first rows of a union are those of a union of first rows
pub first-united : (most : ℕ) (left right first_left first_right rows : List ℕ) → first_left ≡ take most left → first_right ≡ take most right
    → IsStrictlyIncreasing first_left → IsStrictlyIncreasing first_right → IsJoin Either first_left first_right rows → take most rows ≡ take most (united left right)
first-united most left right first_left first_right rows is_left is_right up others join =
    let whole = IsJoin-joined Either first_left first_right (united first_left first_right) up others refl in
    let one : rows ≡ united first_left first_right =
    same_rows rows (united first_left first_right) join.ascending whole.ascending (λ row. join.members row ∙ sym (whole.members row)) in
    ap (λ (zs : List ℕ). take most zs) one
    ∙ ap (λ (zs : List ℕ). take most (united zs first_right)) is_left
    ∙ ap (λ (zs : List ℕ). take most (united (take most left) zs)) is_right
    ∙ sym (take-united most most most left right (omega arith) (omega arith))

-- what passes of the first rows, and of those after them
sifted_apart : (others : List ℕ) (wanted : Bool) (rows : List ℕ) (at : ℕ)
    → sifted others wanted rows ≡ sifted others wanted (take at rows) ++ sifted others wanted (drop at rows)
sifted_apart others wanted rows at =
    ap (λ (zs : List ℕ). sifted others wanted zs) (sym (take-append-drop at rows))
    ∙ filter-append (λ row. cond wanted (has_row others row) (not (has_row others row))) (take at rows) (drop at rows)

-- the rows that were kept and those that pass after them are counted
pub count-sifted : (others : List ℕ) (wanted : Bool) (rows kept : List ℕ) (at : ℕ) → kept ≡ sifted others wanted (take at rows)
    → length kept + length (sifted others wanted (drop at rows)) ≡ length (sifted others wanted rows)
count-sifted others wanted rows kept at is =
    ap (λ (zs : List ℕ). length zs + length (sifted others wanted (drop at rows))) is
    ∙ sym (length-append (sifted others wanted (take at rows)) (sifted others wanted (drop at rows)))
    ∙ ap (λ (zs : List ℕ). length zs) (sym (sifted_apart others wanted rows at))

-- the first rows that pass are those that were kept, once there are so many or all rows were passed
pub first-sifted : (most : ℕ) (others : List ℕ) (wanted : Bool) (rows kept : List ℕ) (at : ℕ) → kept ≡ sifted others wanted (take at rows)
    → length kept ≤ most → (length rows ≤ at) ⊎ (most ≤ length kept) → kept ≡ take most (sifted others wanted rows)
first-sifted most others wanted rows kept at is few done =
    ⊎_elim
    (λ all.
    let none : sifted others wanted (drop at rows) ≡ [] = ap (λ (zs : List ℕ). sifted others wanted zs) (drop_of_length-le rows all) in
    sym (ap (λ (zs : List ℕ). take most zs) (whole ∙ ap (λ (zs : List ℕ). kept ++ zs) none ∙ append-nil kept) ∙ take_all most kept few))
    (λ enough. sym (ap (λ (zs : List ℕ). take most zs) whole ∙ take_at kept (sifted others wanted (drop at rows)) most (omega (arith, few, enough))))
    done
  where
    whole : sifted others wanted rows ≡ kept ++ sifted others wanted (drop at rows)
    whole = sifted_apart others wanted rows at ∙ ap (λ (zs : List ℕ). zs ++ sifted others wanted (drop at rows)) (sym is)

-- the first rows of a list that ascends ascend
pub IsStrictlyIncreasing-take : (n : ℕ) (rows : List ℕ) → IsStrictlyIncreasing rows → IsStrictlyIncreasing (take n rows)
IsStrictlyIncreasing-take n rows up = λ k within.
    let long = length-take n rows in
    let low = get_or-take n rows k 0 (omega (arith, within, long)) in
    let high = get_or-take n rows (k + 1) 0 (omega (arith, within, long)) in
    let next = up k (omega (arith, within, long)) in
    omega (arith, low, high, next)
