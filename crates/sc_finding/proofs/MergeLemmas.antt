-- Two lists, merged: their elements, their order, and that their first elements are made of the first elements of both.
use Rattle.std.proofs.Common.{◌≡◌, ℕ, zero, suc, ◌<◌, ◌≤◌, Bool, true, false, cond, List, [], ◌∷◌, ◌++◌, take, length, get_or, refl, sym, ap, subst, ◌∙◌, ⊎_elim, arith, append-nil, add-one, IsPermutation, IsSortedBy}
use Rattle.std.specs.List.{AllByRecursion}
use Rattle.std.proofs.lemmas.Bool.{cases_Bool}
use Rattle.std.proofs.lemmas.List.{take-take}
use Rattle.std.proofs.lemmas.List.Elements.{recursion_from_All}
use Rattle.std.proofs.lemmas.List.Sorted.{IsPermutation-refl, IsPermutation-cons, IsPermutation-middle, IsPermutation-trans}
use Rattle.sc_finding.specs.Merging.{AscendsBy, merged}

take-cond : {X : Type 0} (n : ℕ) (b : Bool) (u v s t : List X) → take n u ≡ take n s → take n v ≡ take n t
    → take n (cond b u v) ≡ take n (cond b s t)
take-cond n true u v s t p q = p
take-cond n false u v s t p q = q

pub all-weaker : {X : Type 0} (P Q : X → Type 0) → ((z : X) → P z → Q z) → (xs : List X) → AllByRecursion P xs → AllByRecursion Q xs
all-weaker P Q h [] all = tt
all-weaker P Q h (x ∷ xs) all = (h x all.0, all-weaker P Q h xs all.1)

all-take : {X : Type 0} (P : X → Type 0) (n : ℕ) (xs : List X) → AllByRecursion P xs → AllByRecursion P (take n xs)
all-take P zero xs all = tt
all-take P (suc n) [] all = tt
all-take P (suc n) (x ∷ xs) all = (all.0, all-take P n xs all.1)

module _ {X : Type 0} (before : X → X → Bool) where
  pub merged-nil : (xs : List X) → merged before xs [] ≡ xs
  merged-nil [] = refl
  merged-nil (x ∷ xs) = refl

  -- one step

  pub step-left : (x : X) (xs : List X) (y : X) (ys : List X) → before x y ≡ true
      → merged before (x ∷ xs) (y ∷ ys) ≡ x ∷ merged before xs (y ∷ ys)
  step-left x xs y ys h =
      ap (λ (b : Bool). cond b (x ∷ merged before xs (y ∷ ys)) (y ∷ merged before (x ∷ xs) ys)) h

  pub step-right : (x : X) (xs : List X) (y : X) (ys : List X) → before x y ≡ false
      → merged before (x ∷ xs) (y ∷ ys) ≡ y ∷ merged before (x ∷ xs) ys
  step-right x xs y ys h =
      ap (λ (b : Bool). cond b (x ∷ merged before xs (y ∷ ys)) (y ∷ merged before (x ∷ xs) ys)) h

  -- the first elements

  pub take-merged_left : (n m : ℕ) (xs ys : List X) → n ≤ m → take n (merged before (take m xs) ys) ≡ take n (merged before xs ys)
  take-merged_left zero m xs ys h = refl
  take-merged_left (suc n) zero xs ys h = absurd (omega arith)
  take-merged_left (suc n) (suc m) [] ys h = refl
  take-merged_left (suc n) (suc m) (x ∷ xs) [] h = ap (λ (l : List X). x ∷ l) (take-take n m xs (omega arith))
  take-merged_left (suc n) (suc m) (x ∷ xs) (y ∷ ys) h =
      take-cond (suc n) (before x y) (x ∷ merged before (take m xs) (y ∷ ys)) (y ∷ merged before (x ∷ take m xs) ys)
      (x ∷ merged before xs (y ∷ ys)) (y ∷ merged before (x ∷ xs) ys)
      (ap (λ (l : List X). x ∷ l) (take-merged_left n m xs (y ∷ ys) (omega arith)))
      (ap (λ (l : List X). y ∷ l) (take-merged_left n (suc m) (x ∷ xs) ys (omega arith)))

  pub take-merged_right : (n m : ℕ) (xs ys : List X) → n ≤ m → take n (merged before xs (take m ys)) ≡ take n (merged before xs ys)
  take-merged_right zero m xs ys h = refl
  take-merged_right (suc n) zero xs ys h = absurd (omega arith)
  take-merged_right (suc n) (suc m) [] ys h = take-take (suc n) (suc m) ys h
  take-merged_right (suc n) (suc m) (x ∷ xs) [] h = refl
  take-merged_right (suc n) (suc m) (x ∷ xs) (y ∷ ys) h =
      take-cond (suc n) (before x y) (x ∷ merged before xs (y ∷ take m ys)) (y ∷ merged before (x ∷ xs) (take m ys))
      (x ∷ merged before xs (y ∷ ys)) (y ∷ merged before (x ∷ xs) ys)
      (ap (λ (l : List X). x ∷ l) (take-merged_right n (suc m) xs (y ∷ ys) (omega arith)))
      (ap (λ (l : List X). y ∷ l) (take-merged_right n m (x ∷ xs) ys (omega arith)))

  -- the elements

  onto-moves : (x : X) (xs : List X) → ((ys : List X) → IsPermutation (xs ++ ys) (merged before xs ys)) → (ys : List X)
      → IsPermutation ((x ∷ xs) ++ ys) (merged before (x ∷ xs) ys)
  onto-moves x xs rest [] =
      subst (λ (l : List X). IsPermutation l (x ∷ xs)) (sym (append-nil (x ∷ xs))) (IsPermutation-refl (x ∷ xs))
  onto-moves x xs rest (y ∷ ys) =
      elim (before x y) as (λ b. IsPermutation ((x ∷ xs) ++ (y ∷ ys)) (cond b (x ∷ merged before xs (y ∷ ys)) (y ∷ merged before (x ∷ xs) ys))) [
        | true ↦ IsPermutation-cons x (xs ++ (y ∷ ys)) (merged before xs (y ∷ ys)) (rest (y ∷ ys))
        | false ↦ IsPermutation-trans ((x ∷ xs) ++ (y ∷ ys)) (y ∷ ((x ∷ xs) ++ ys)) (y ∷ merged before (x ∷ xs) ys)
            (IsPermutation-middle (x ∷ xs) y ys)
            (IsPermutation-cons y ((x ∷ xs) ++ ys) (merged before (x ∷ xs) ys) (onto-moves x xs rest ys))
      ]

  pub merged-moves : (xs ys : List X) → IsPermutation (xs ++ ys) (merged before xs ys)
  merged-moves [] ys = IsPermutation-refl ys
  merged-moves (x ∷ xs) ys = onto-moves x xs (merged-moves xs) ys

  onto-all : (P : X → Type 0) (x : X) (xs : List X) → ((ys : List X) → AllByRecursion P ys → AllByRecursion P (merged before xs ys))
      → P x → AllByRecursion P xs → (ys : List X) → AllByRecursion P ys → AllByRecursion P (merged before (x ∷ xs) ys)
  onto-all P x xs rest head tail [] others = (head, tail)
  onto-all P x xs rest head tail (y ∷ ys) others =
      elim (before x y) as (λ b. AllByRecursion P (cond b (x ∷ merged before xs (y ∷ ys)) (y ∷ merged before (x ∷ xs) ys))) [
        | true ↦ (head, rest (y ∷ ys) others)
        | false ↦ (others.0, onto-all P x xs rest head tail ys others.1)
      ]

  pub merged-all : (P : X → Type 0) (xs ys : List X) → AllByRecursion P xs → AllByRecursion P ys → AllByRecursion P (merged before xs ys)
  merged-all P [] ys ours others = others
  merged-all P (x ∷ xs) ys ours others = onto-all P x xs (λ zs. merged-all P xs zs ours.1) ours.0 ours.1 ys others

  -- the order

  -- of two elements one goes before the other, and what goes before an element goes before those that it goes before
  pub record IsOrder : Type 0 where
    pub either : (x y : X) → before x y ≡ false → before y x ≡ true
    pub chain : (x y z : X) → before x y ≡ true → before y z ≡ true → before x z ≡ true

  onto-ascends : IsOrder → (x : X) (xs : List X) → ((ys : List X) → AscendsBy before ys → AscendsBy before (merged before xs ys))
      → AscendsBy before (x ∷ xs) → (ys : List X) → AscendsBy before ys → AscendsBy before (merged before (x ∷ xs) ys)
  onto-ascends order x xs rest up [] others = up
  onto-ascends order x xs rest up (y ∷ ys) others =
      let Goal : Bool → Type 0 = λ b. AscendsBy before (cond b (x ∷ merged before xs (y ∷ ys)) (y ∷ merged before (x ∷ xs) ys)) in
      ⊎_elim
      (λ (h : before x y ≡ true).
      let after : AllByRecursion (λ z. before x z ≡ true) ys =
      all-weaker (λ z. before y z ≡ true) (λ z. before x z ≡ true) (λ z. order.chain x y z h) ys others.0 in
      let goal : Goal true =
      (merged-all (λ z. before x z ≡ true) xs (y ∷ ys) up.0 (h, after), rest (y ∷ ys) others) in
      subst Goal (sym h) goal)
      (λ (h : before x y ≡ false).
      let back : before y x ≡ true = order.either x y h in
      let after : AllByRecursion (λ z. before y z ≡ true) xs =
      all-weaker (λ z. before x z ≡ true) (λ z. before y z ≡ true) (λ z. order.chain y x z back) xs up.0 in
      let goal : Goal false =
      (merged-all (λ z. before y z ≡ true) (x ∷ xs) ys (back, after) others.0, onto-ascends order x xs rest up ys others.1) in
      subst Goal (sym h) goal)
      (cases_Bool (before x y))

  pub merged-ascends : IsOrder → (xs ys : List X) → AscendsBy before xs → AscendsBy before ys → AscendsBy before (merged before xs ys)
  merged-ascends order [] ys ours others = others
  merged-ascends order (x ∷ xs) ys ours others = onto-ascends order x xs (λ zs. merged-ascends order xs zs ours.1) ours ys others

  pub ascends-take : (n : ℕ) (xs : List X) → AscendsBy before xs → AscendsBy before (take n xs)
  ascends-take zero xs up = tt
  ascends-take (suc n) [] up = tt
  ascends-take (suc n) (x ∷ xs) up = (all-take (λ y. before x y ≡ true) n xs up.0, ascends-take n xs up.1)

  next-sorted : (lt : X → X → Bool) → ((x y : X) → before x y ≡ true → lt y x ≡ false) → (xs : List X) → AscendsBy before xs
      → (k : ℕ) (d : X) → suc k < length xs → lt (get_or xs (suc k) d) (get_or xs k d) ≡ false
  next-sorted lt keeps [] up k d within = absurd (omega arith)
  next-sorted lt keeps (x ∷ []) up k d within = absurd (omega arith)
  next-sorted lt keeps (x ∷ y ∷ xs) up zero d within = keeps x y up.0.0
  next-sorted lt keeps (x ∷ y ∷ xs) up (suc k) d within = next-sorted lt keeps (y ∷ xs) up.1 k d (omega arith)

  pub sorted-from_ascends : (lt : X → X → Bool) → ((x y : X) → before x y ≡ true → lt y x ≡ false) → (xs : List X) → AscendsBy before xs
      → IsSortedBy lt xs
  sorted-from_ascends lt keeps xs up k d low within =
      ap (λ (n : ℕ). lt (get_or xs n d) (get_or xs k d)) (add-one k) ∙ next-sorted lt keeps xs up k d (omega arith)

  pub ascends-from_far : (lt : X → X → Bool) → ((x y : X) → lt y x ≡ false → before x y ≡ true) → (xs : List X)
      → ((i j : ℕ) (d : X) → i ≤ j → j < length xs → lt (get_or xs j d) (get_or xs i d) ≡ false) → AscendsBy before xs
  ascends-from_far lt back [] far = tt
  ascends-from_far lt back (x ∷ xs) far = (
    recursion_from_All (λ y. before x y ≡ true) xs
        (λ k d within. back x (get_or xs k d) (far 0 (suc k) d (omega arith) (omega arith))),
    ascends-from_far lt back xs (λ i j d le within. far (suc i) (suc j) d (omega arith) (omega arith)),
  )
