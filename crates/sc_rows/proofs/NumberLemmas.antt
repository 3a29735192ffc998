-- The new numbers of rows, row by row, and joined with rows that are added among them.
use Rattle.std.proofs.Common.{◌≡◌, ℕ, zero, suc, ◌+◌, ◌<◌, ◌≤◌, List, [], ◌∷◌, ◌++◌, length, take, drop, get_or, Option, Some, None, append-nil, append_assoc, refl, sym, ap, ◌∙◌, arith, ◌⊎◌, inl, inr, All}
use Rattle.std.proofs.lemmas.List.{take_more, take-append-drop, drop_all, drop_more, drop-drop}
use Rattle.std.specs.Ordering.{nat_cmp}
use Rattle.std.specs.declared.cmp.Ordering.TheVariants.{Less}
use Rattle.std.proofs.lemmas.List.Elements.{All-head, All-tail, filter_map-append}
use Rattle.std.specs.List.{filter_map, cons_option}
use Rattle.std.specs.List.Sorted.{IsStrictlyIncreasing}
use Rattle.sc_rows.proofs.JoinLemmas.{AscendFrom, cmp_from_less, ascend_from_increasing, increasing_from_ascend, joined}
use Rattle.sc_rows.specs.Moving.{new_number, new_numbers, KeepsOrder}
use Rattle.sc_rows.specs.declared.joining.Kept.TheVariants.{Either}
use Rattle.sc_rows.specs.Joining.{keeps}

-- ---- rows
-- one row more, with its number where it has one
pub numbers-next : (moved : List (Option ℕ)) (rows : List ℕ) (i : ℕ) (number : Option ℕ) → i < length rows → number ≡ new_number moved (get_or rows i 0)
    → new_numbers moved (take (i + 1) rows) ≡ new_numbers moved (take i rows) ++ cons_option number []
numbers-next moved rows i number within is =
    ap (new_numbers moved) (take_more rows i 0 within) ∙ filter_map-append (new_number moved) (take i rows) (get_or rows i 0 ∷ [])
    ∙ ap (λ (n : Option ℕ). new_numbers moved (take i rows) ++ cons_option n []) (sym is)

-- a row with a number below a limit is passed where a later one's is not below it
pub passed-first : (moved : List (Option ℕ)) (rows : List ℕ) (at found limit number : ℕ) → Some found ≡ new_number moved (get_or rows at 0) → limit ≤ found
    → new_number moved (get_or rows 0 0) ≡ Some number → number < limit → 0 < at
passed-first moved rows zero found limit number there high is low =
    let same : found ≡ number = cc in absurd (omega (arith, same))
passed-first moved rows (suc at) found limit number there high is low = omega arith

-- one row more, whose new number was put at the end where it has one
pub numbers-more : (moved : List (Option ℕ)) (rows : List ℕ) (i : ℕ) (number : Option ℕ) (first now next : List ℕ) → i < length rows → number ≡ new_number moved (get_or rows i 0)
    → now ≡ first ++ new_numbers moved (take i rows) → next ≡ now ++ cons_option number [] → next ≡ first ++ new_numbers moved (take (i + 1) rows)
numbers-more moved rows i number first now next within is before after =
    let one : new_numbers moved (take (i + 1) rows) ≡ new_numbers moved (take i rows) ++ cons_option number [] =
    ap (new_numbers moved) (take_more rows i 0 within) ∙ filter_map-append (new_number moved) (take i rows) (get_or rows i 0 ∷ [])
    ∙ ap (λ (n : Option ℕ). new_numbers moved (take i rows) ++ cons_option n []) (sym is) in
    after
    ∙ ap (λ (ns : List ℕ). ns ++ cons_option number []) before
    ∙ append_assoc first (new_numbers moved (take i rows)) (cons_option number [])
    ∙ ap (λ (ns : List ℕ). first ++ ns) (sym one)

-- a new number is none of those below which none is
number-from : (low : ℕ) (moved : List (Option ℕ)) (i n : ℕ) → AscendFrom low (filter_map (λ number. number) moved) → new_number moved i ≡ Some n → low ≤ n
number-from low [] i n up is = cc
number-from low (None ∷ ms) zero n up is = cc
number-from low (None ∷ ms) (suc i) n up is = number-from low ms i n up is
number-from low (Some m ∷ ms) zero n up is = let same : m ≡ n = cc in omega (arith, up.0, same)
number-from low (Some m ∷ ms) (suc i) n up is =
    let later = number-from (m + 1) ms i n up.1 is in omega (arith, up.0, later)

number-rises : (low : ℕ) (moved : List (Option ℕ)) (i j m n : ℕ) → AscendFrom low (filter_map (λ number. number) moved) → i < j
    → new_number moved i ≡ Some m → new_number moved j ≡ Some n → m + 1 ≤ n
number-rises low [] i j m n up before first last = cc
number-rises low (x ∷ ms) i zero m n up before first last = absurd (omega arith)
number-rises low (None ∷ ms) zero (suc j) m n up before first last = cc
number-rises low (Some k ∷ ms) zero (suc j) m n up before first last =
    let same : k ≡ m = cc in
    let later = number-from (k + 1) ms j n up.1 last in omega (arith, same, later)
number-rises low (None ∷ ms) (suc i) (suc j) m n up before first last = number-rises low ms i j m n up (omega arith) first last
number-rises low (Some k ∷ ms) (suc i) (suc j) m n up before first last = number-rises (k + 1) ms i j m n up.1 (omega arith) first last

new_numbers-from : (moved : List (Option ℕ)) → AscendFrom 0 (filter_map (λ number. number) moved) → (low bound : ℕ) (rows : List ℕ) → AscendFrom low rows
    → ((r n : ℕ) → low ≤ r → new_number moved r ≡ Some n → bound ≤ n) → AscendFrom bound (new_numbers moved rows)
new_numbers-from moved ascend low bound [] up bounded = tt
new_numbers-from moved ascend low bound (r ∷ rs) up bounded =
    by_number (λ b rest. new_numbers-from moved ascend (r + 1) b rs up.1 rest) (new_number moved r) refl
  where
    by_number : ((b : ℕ) → ((q n : ℕ) → r + 1 ≤ q → new_number moved q ≡ Some n → b ≤ n) → AscendFrom b (new_numbers moved rs))
        → (number : Option ℕ) → new_number moved r ≡ number → AscendFrom bound (new_numbers moved (r ∷ rs))
    by_number later None is = rw is (later bound (λ q n above has. bounded q n (omega (arith, up.0, above)) has))
    by_number later (Some n) is = rw is (bounded r n up.0 is, later (n + 1) (λ q m above has. number-rises 0 moved r q n m ascend (omega arith) is has))

-- rows that ascend have new numbers that do
pub new_numbers-ascend : (moved : List (Option ℕ)) (rows : List ℕ) → KeepsOrder moved → IsStrictlyIncreasing rows → IsStrictlyIncreasing (new_numbers moved rows)
new_numbers-ascend moved rows ascend up =
    increasing_from_ascend 0 (new_numbers moved rows)
    (new_numbers-from moved (ascend_from_increasing (filter_map (λ number. number) moved) ascend) 0 0 rows (ascend_from_increasing rows up) (λ r n above is. omega arith))

-- ---- the new numbers joined with the rows that are added
joined-left : (xs : List ℕ) → joined (keeps Either) xs [] ≡ xs
joined-left [] = refl
joined-left (x ∷ xs) = refl

-- what is left of one list, once the other one is passed
pub merged-rest : (moved : List (Option ℕ)) (rows added pending whole : List ℕ) (i j : ℕ) → pending ++ joined (keeps Either) (new_numbers moved (drop i rows)) (drop j added) ≡ whole
    → (length rows ≤ i) ⊎ (length added ≤ j) → (pending ++ new_numbers moved (drop i rows)) ++ drop j added ≡ whole
merged-rest moved rows added pending whole i j same (inl past) =
    let none : drop i rows ≡ [] = drop_all i rows past in
    let start : (pending ++ new_numbers moved (drop i rows)) ++ drop j added ≡ (pending ++ []) ++ drop j added = ap (λ (rs : List ℕ). (pending ++ new_numbers moved rs) ++ drop j added) none in
    let end : pending ++ joined (keeps Either) (new_numbers moved (drop i rows)) (drop j added) ≡ pending ++ drop j added = ap (λ (rs : List ℕ). pending ++ joined (keeps Either) (new_numbers moved rs) (drop j added)) none in
    start ∙ ap (λ (rs : List ℕ). rs ++ drop j added) (append-nil pending) ∙ sym end ∙ same
merged-rest moved rows added pending whole i j same (inr past) =
    let none : drop j added ≡ [] = drop_all j added past in
    let end : pending ++ joined (keeps Either) (new_numbers moved (drop i rows)) (drop j added) ≡ pending ++ new_numbers moved (drop i rows) =
    ap (λ (rs : List ℕ). pending ++ joined (keeps Either) (new_numbers moved (drop i rows)) rs) none ∙ ap (λ (rs : List ℕ). pending ++ rs) (joined-left (new_numbers moved (drop i rows))) in
    ap (λ (rs : List ℕ). (pending ++ new_numbers moved (drop i rows)) ++ rs) none ∙ append-nil (pending ++ new_numbers moved (drop i rows)) ∙ sym end ∙ same

-- numbers below the first row of the other list come first
joined-below : (below rest ys : List ℕ) (y : ℕ) → All (λ n. n < y) below → joined (keeps Either) (below ++ rest) (y ∷ ys) ≡ below ++ joined (keeps Either) rest (y ∷ ys)
joined-below [] rest ys y all = refl
joined-below (x ∷ xs) rest ys y all =
    let less : nat_cmp x y ≡ Less = cmp_from_less x y (All-head (λ n. n < y) x xs all) in
    rw less (ap (λ (zs : List ℕ). x ∷ zs) (joined-below xs rest ys y (All-tail (λ n. n < y) x xs all)))

pub merged-below : (moved : List (Option ℕ)) (rows added pending whole : List ℕ) (i j n y : ℕ) → pending ++ joined (keeps Either) (new_numbers moved (drop i rows)) (drop j added) ≡ whole
    → j < length added → y ≡ get_or added j 0 → All (λ m. m < y) (new_numbers moved (take n (drop i rows)))
    → (pending ++ new_numbers moved (take n (drop i rows))) ++ joined (keeps Either) (new_numbers moved (drop (i + n) rows)) (drop j added) ≡ whole
merged-below moved rows added pending whole i j n y same within is all =
    let below = new_numbers moved (take n (drop i rows)) in
    let rest = new_numbers moved (drop (i + n) rows) in
    let split : new_numbers moved (drop i rows) ≡ below ++ rest =
    ap (new_numbers moved) (sym (take-append-drop n (drop i rows)) ∙ ap (λ (rs : List ℕ). take n (drop i rows) ++ rs) (drop-drop n i rows))
    ∙ filter_map-append (new_number moved) (take n (drop i rows)) (drop (i + n) rows) in
    let tail : drop j added ≡ y ∷ drop (j + 1) added = drop_more added j 0 within ∙ ap (λ (z : ℕ). z ∷ drop (j + 1) added) (sym is) in
    append_assoc pending below (joined (keeps Either) rest (drop j added))
    ∙ ap (λ (zs : List ℕ). pending ++ (below ++ joined (keeps Either) rest zs)) tail
    ∙ ap (λ (zs : List ℕ). pending ++ zs) (sym (joined-below below rest (drop (j + 1) added) y all))
    ∙ ap (λ (zs : List ℕ). pending ++ joined (keeps Either) (below ++ rest) zs) (sym tail)
    ∙ ap (λ (zs : List ℕ). pending ++ joined (keeps Either) zs (drop j added)) (sym split)
    ∙ same
