-- Two ascending lists of rows, joined: which rows the join has, and that they ascend.
use Rattle.std.proofs.Common.{◌≡◌, ℕ, ◌+◌, ◌<◌, ◌≤◌, ◌==◌, Bool, true, false, cond, List, [], ◌∷◌, ◌++◌, length, drop, append-nil, refl, sym, ap, subst, ◌∙◌, arith}
use Rattle.std.specs.Prelude.{⊤}
use Rattle.std.specs.List.{AllByRecursion}
use Rattle.std.specs.List.Sorted.{IsStrictlyIncreasing, IsStrictlySortedBy}
use Rattle.std.specs.Ordering.{nat_cmp, match_ordering}
use Rattle.std.specs.declared.cmp.Ordering.{Ordering}
use Rattle.std.specs.declared.cmp.Ordering.TheVariants.{Less, Equal, Greater}
use Rattle.std.proofs.lemmas.Bool.Decides.{nat_tests}
use Rattle.std.proofs.lemmas.Map.Keys.{sorted_from_strictly_increasing, IsStrictlyIncreasing-from_sorted}
use Rattle.std.proofs.Math.ListN.{drop_of_length-le}
use Rattle.sc_rows.specs.declared.joining.Kept.{Kept}
use Rattle.sc_rows.specs.declared.joining.Kept.TheVariants.{Both, Either, LeftAlone}
use Rattle.sc_rows.specs.Joining.{has_row, keeps, IsJoin}

-- the rows ascend, none below this one
abbrev pub AscendFrom : ℕ → List ℕ → Type 0
AscendFrom low [] = ⊤
AscendFrom low (x ∷ xs) = (low ≤ x) × AscendFrom (x + 1) xs

pub less_from_cmp : (x y : ℕ) → nat_cmp x y ≡ Less → x < y
less_from_cmp x y h = grind (arith, nat_tests)

pub equal_from_cmp : (x y : ℕ) → nat_cmp x y ≡ Equal → x ≡ y
equal_from_cmp x y h = grind (arith, nat_tests)

pub greater_from_cmp : (x y : ℕ) → nat_cmp x y ≡ Greater → y < x
greater_from_cmp x y h = grind (arith, nat_tests)

pub cmp_from_less : (x y : ℕ) → x < y → nat_cmp x y ≡ Less
cmp_from_less x y h = grind (arith, nat_tests)

ascend_above : (low : ℕ) (xs : List ℕ) → AllByRecursion (λ y. low ≤ y) xs → IsStrictlySortedBy nat_cmp xs → AscendFrom low xs
unfolding IsStrictlySortedBy
ascend_above low [] all sorted = tt
ascend_above low (x ∷ xs) all sorted = (all.0, ascend_above (x + 1) xs (above xs sorted.0) sorted.1)
  where
    above : (ys : List ℕ) → AllByRecursion (λ y. nat_cmp x y ≡ Less) ys → AllByRecursion (λ y. x + 1 ≤ y) ys
    above [] h = tt
    above (y ∷ ys) h = (let up = less_from_cmp x y h.0 in omega (arith, up), above ys h.1)

zero_below : (xs : List ℕ) → AllByRecursion (λ y. 0 ≤ y) xs
zero_below [] = tt
zero_below (x ∷ xs) = (omega arith, zero_below xs)

pub ascend_from_increasing : (xs : List ℕ) → IsStrictlyIncreasing xs → AscendFrom 0 xs
ascend_from_increasing xs up = ascend_above 0 xs (zero_below xs) (sorted_from_strictly_increasing xs up)

pub ascend_weaker : (low high : ℕ) (xs : List ℕ) → low ≤ high → AscendFrom high xs → AscendFrom low xs
ascend_weaker low high [] le up = tt
ascend_weaker low high (x ∷ xs) le up = (let h = up.0 in omega (arith, h, le), up.1)

ascend_sorted : (low : ℕ) (xs : List ℕ) → AscendFrom low xs → IsStrictlySortedBy nat_cmp xs
unfolding IsStrictlySortedBy
ascend_sorted low [] up = tt
ascend_sorted low (x ∷ xs) up = (above (x + 1) xs (omega arith) up.1, ascend_sorted (x + 1) xs up.1)
  where
    above : (from : ℕ) (ys : List ℕ) → x < from → AscendFrom from ys → AllByRecursion (λ y. nat_cmp x y ≡ Less) ys
    above from [] lt h = tt
    above from (y ∷ ys) lt h =
        let first = h.0 in
        let here : x < y = omega (arith, lt, first) in
        (cmp_from_less x y here, above (y + 1) ys (omega (arith, here)) h.1)

pub increasing_from_ascend : (low : ℕ) (xs : List ℕ) → AscendFrom low xs → IsStrictlyIncreasing xs
increasing_from_ascend low xs up = IsStrictlyIncreasing-from_sorted xs (ascend_sorted low xs up)

differs : (x n : ℕ) → n < x → (x == n) ≡ false
differs x n h = grind (arith, nat_tests)

-- a row below all others is not among them
pub none_below : (n low : ℕ) (xs : List ℕ) → n < low → AscendFrom low xs → has_row xs n ≡ false
none_below n low [] lt up = refl
none_below n low (x ∷ xs) lt up =
    let first = up.0 in
    let here : n < x = omega (arith, lt, first) in
    rw (differs x n here) (none_below n (x + 1) xs (omega (arith, here)) up.1)

module _ (k : Bool → Bool → Bool) where
  -- a row put before others where it is kept
  abbrev pub put : Bool → ℕ → List ℕ → List ℕ
  put kept x xs = cond kept (x ∷ xs) xs

  -- x and xs joined with a list, where `rest` joins xs with a list
  abbrev pub joined_onto : ℕ → List ℕ → (List ℕ → List ℕ) → List ℕ → List ℕ
  joined_onto x xs rest [] = cond (k true false) (x ∷ xs) []
  joined_onto x xs rest (y ∷ ys) = match_ordering (nat_cmp x y)
      (put (k true false) x (rest (y ∷ ys)))
      (put (k true true) x (rest ys))
      (put (k false true) y (joined_onto x xs rest ys))

  -- the rows of both lists in order, of which those are kept that the test says
  abbrev pub joined : List ℕ → List ℕ → List ℕ
  joined [] ys = cond (k false true) ys []
  joined (x ∷ xs) ys = joined_onto x xs (joined xs) ys

  cond-nil : (b : Bool) (xs : List ℕ) → xs ≡ [] → cond b xs [] ≡ []
  cond-nil true xs h = h
  cond-nil false xs h = refl

  joined-nil : (xs : List ℕ) → joined xs [] ≡ cond (k true false) xs []
  joined-nil [] = cond-nil (k false true) [] refl ∙ sym (cond-nil (k true false) [] refl)
  joined-nil (x ∷ xs) = refl

  -- a join of what is left of both lists, after what was joined before
  module _ (xs ys rows whole : List ℕ) (i j : ℕ) (same : rows ++ joined (drop i xs) (drop j ys) ≡ whole) where
    pub rest-left : length ys ≤ j → (rows ++ cond (k true false) (drop i xs) []) ++ cond (k false true) (drop j ys) [] ≡ whole
    rest-left past =
        let none : drop j ys ≡ [] = drop_of_length-le ys past in
        ap (λ (zs : List ℕ). (rows ++ cond (k true false) (drop i xs) []) ++ zs) (cond-nil (k false true) (drop j ys) none)
        ∙ append-nil (rows ++ cond (k true false) (drop i xs) [])
        ∙ ap (λ (zs : List ℕ). rows ++ zs) (sym (joined-nil (drop i xs)) ∙ ap (joined (drop i xs)) (sym none)) ∙ same

    pub rest-right : length xs ≤ i → (rows ++ cond (k true false) (drop i xs) []) ++ cond (k false true) (drop j ys) [] ≡ whole
    rest-right past =
        let none : drop i xs ≡ [] = drop_of_length-le xs past in
        ap (λ (zs : List ℕ). zs ++ cond (k false true) (drop j ys) [])
        (ap (λ (zs : List ℕ). rows ++ zs) (cond-nil (k true false) (drop i xs) none) ∙ append-nil rows)
        ∙ ap (λ (zs : List ℕ). rows ++ zs) (ap (λ (zs : List ℕ). joined zs (drop j ys)) (sym none)) ∙ same

  ascend-cond : (b : Bool) (low : ℕ) (xs : List ℕ) → AscendFrom low xs → AscendFrom low (cond b xs [])
  ascend-cond true low xs up = up
  ascend-cond false low xs up = tt

  ascend-put : (b : Bool) (low x : ℕ) (xs : List ℕ) → low ≤ x → AscendFrom (x + 1) xs → AscendFrom low (put b x xs)
  ascend-put true low x xs le up = (le, up)
  ascend-put false low x xs le up = ascend_weaker low (x + 1) xs (omega (arith, le)) up

  onto-ascends : (low x : ℕ) (xs : List ℕ) → ((l : ℕ) (ys : List ℕ) → AscendFrom l xs → AscendFrom l ys → AscendFrom l (joined xs ys))
      → AscendFrom low (x ∷ xs) → (ys : List ℕ) → AscendFrom low ys → AscendFrom low (joined (x ∷ xs) ys)
  onto-ascends low x xs rest up [] others = ascend-cond (k true false) low (x ∷ xs) up
  onto-ascends low x xs rest up (y ∷ ys) others =
      let whole : Ordering → List ℕ = λ o. match_ordering o (put (k true false) x (joined xs (y ∷ ys))) (put (k true true) x (joined xs ys)) (put (k false true) y (joined (x ∷ xs) ys)) in
      elim (nat_cmp x y) as (λ o. nat_cmp x y ≡ o → AscendFrom low (whole o)) [
        | Less ↦ λ h. let lt = less_from_cmp x y h in
            ascend-put (k true false) low x (joined xs (y ∷ ys)) up.0 (rest (x + 1) (y ∷ ys) up.1 (omega (arith, lt), others.1))
        | Equal ↦ λ h. let same = equal_from_cmp x y h in
            ascend-put (k true true) low x (joined xs ys) up.0 (rest (x + 1) ys up.1 (ascend_weaker (x + 1) (y + 1) ys (omega (arith, same)) others.1))
        | Greater ↦ λ h. let lt = greater_from_cmp x y h in
            ascend-put (k false true) low y (joined (x ∷ xs) ys) others.0 (onto-ascends (y + 1) x xs rest (omega (arith, lt), up.1) ys others.1)
      ] refl

  pub joined-ascends : (low : ℕ) (xs ys : List ℕ) → AscendFrom low xs → AscendFrom low ys → AscendFrom low (joined xs ys)
  joined-ascends low [] ys up others = ascend-cond (k false true) low ys others
  joined-ascends low (x ∷ xs) ys up others = onto-ascends low x xs (λ l zs. joined-ascends l xs zs) up ys others

  module _ (none : k false false ≡ false) (n : ℕ) where
    -- what is kept of the first row, and of the rest
    put-has : (b e p q P Q : Bool) (x : ℕ) (xs : List ℕ) → (x == n) ≡ e → has_row xs n ≡ k p q
        → (e ≡ true → (p ≡ false) × (q ≡ false) × (k P Q ≡ b)) → (e ≡ false → k P Q ≡ k p q) → has_row (put b x xs) n ≡ k P Q
    put-has true true p q P Q x xs here others one rest = rw here (sym (one refl).2)
    put-has true false p q P Q x xs here others one rest = rw here (others ∙ sym (rest refl))
    put-has false true p q P Q x xs here others one rest =
        others ∙ rw ((one refl).0, (one refl).1) (none ∙ sym (one refl).2)
    put-has false false p q P Q x xs here others one rest = others ∙ sym (rest refl)

    kept-left : (b : Bool) (ys : List ℕ) → k true false ≡ b → has_row (cond b ys []) n ≡ k (has_row ys n) false
    kept-left true ys is = elim (has_row ys n) as (λ t. t ≡ k t false) [ true ↦ sym is | false ↦ sym none ]
    kept-left false ys is = elim (has_row ys n) as (λ t. false ≡ k t false) [ true ↦ sym is | false ↦ sym none ]

    kept-right : (b : Bool) (ys : List ℕ) → k false true ≡ b → has_row (cond b ys []) n ≡ k false (has_row ys n)
    kept-right true ys is = elim (has_row ys n) as (λ t. t ≡ k false t) [ true ↦ sym is | false ↦ sym none ]
    kept-right false ys is = elim (has_row ys n) as (λ t. false ≡ k false t) [ true ↦ sym is | false ↦ sym none ]

    same_row : (x : ℕ) → (x == n) ≡ true → x ≡ n
    same_row x h = grind (arith, nat_tests)

    onto-has : (x : ℕ) (xs : List ℕ) → ((ys : List ℕ) (l : ℕ) → AscendFrom l ys → has_row (joined xs ys) n ≡ k (has_row xs n) (has_row ys n))
        → AscendFrom x (x ∷ xs) → (ys : List ℕ) (l : ℕ) → AscendFrom l ys → has_row (joined (x ∷ xs) ys) n ≡ k (has_row (x ∷ xs) n) (has_row ys n)
    onto-has x xs rest up [] l others = kept-left (k true false) (x ∷ xs) refl
    onto-has x xs rest up (y ∷ ys) l others =
        let whole : Ordering → List ℕ = λ o. match_ordering o (put (k true false) x (joined xs (y ∷ ys))) (put (k true true) x (joined xs ys)) (put (k false true) y (joined (x ∷ xs) ys)) in
        let here = has_row (x ∷ xs) n in
        let there = has_row (y ∷ ys) n in
        elim (nat_cmp x y) as (λ o. nat_cmp x y ≡ o → has_row (whole o) n ≡ k here there) [
          | Less ↦ λ h.
              let lt = less_from_cmp x y h in
              put-has (k true false) (x == n) (has_row xs n) there here there x (joined xs (y ∷ ys)) refl (rest (y ∷ ys) l others)
              (λ e. let is = same_row x e in
              let a = none_below n (x + 1) xs (omega (arith, is)) up.1 in
              let b = none_below n y (y ∷ ys) (omega (arith, is, lt)) (omega arith, others.1) in
              (a, b, rw (e, b) refl))
              (λ e. rw e refl)
          | Equal ↦ λ h.
              let same = equal_from_cmp x y h in
              put-has (k true true) (x == n) (has_row xs n) (has_row ys n) here there x (joined xs ys) refl (rest ys (y + 1) others.1)
              (λ e. let is = same_row x e in
              let a = none_below n (x + 1) xs (omega (arith, is)) up.1 in
              let b = none_below n (y + 1) ys (omega (arith, is, same)) others.1 in
              (a, b, rw (← same, e) refl))
              (λ e. rw (← same, e) refl)
          | Greater ↦ λ h.
              let lt = greater_from_cmp x y h in
              put-has (k false true) (y == n) here (has_row ys n) here there y (joined (x ∷ xs) ys) refl (onto-has x xs rest up ys (y + 1) others.1)
              (λ e. let is = same_row y e in
              let a = none_below n x (x ∷ xs) (omega (arith, is, lt)) up in
              let b = none_below n (y + 1) ys (omega (arith, is)) others.1 in
              (a, b, rw (e, a) refl))
              (λ e. rw e refl)
        ] refl

    -- a row is in the join just where the test keeps it
    pub joined-has : (xs : List ℕ) (l : ℕ) → AscendFrom l xs → (ys : List ℕ) (m : ℕ) → AscendFrom m ys
        → has_row (joined xs ys) n ≡ k (has_row xs n) (has_row ys n)
    joined-has [] l up ys m others = kept-right (k false true) ys refl
    joined-has (x ∷ xs) l up ys m others = onto-has x xs (joined-has xs (x + 1) up.1) (omega arith, up.1) ys m others

-- the join of two lists of rows that ascend has the rows that are kept
pub IsJoin-joined : (how : Kept) (xs ys rows : List ℕ) → IsStrictlyIncreasing xs → IsStrictlyIncreasing ys
    → rows ≡ joined (keeps how) xs ys → IsJoin how xs ys rows
IsJoin-joined how xs ys rows left right is =
    let a = ascend_from_increasing xs left in
    let b = ascend_from_increasing ys right in
    record {
      members = λ row. ap (λ (rs : List ℕ). has_row rs row) is ∙ joined-has (keeps how) (none how) row xs 0 a ys 0 b;
      ascending = increasing_from_ascend 0 rows (subst (AscendFrom 0) (sym is) (joined-ascends (keeps how) 0 xs ys a b));
    }
  where
    none : (how : Kept) → keeps how false false ≡ false
    none Both = refl
    none Either = refl
    none LeftAlone = refl
