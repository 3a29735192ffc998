-- Lists that are gathered into one, by the least of their first elements.
use Rattle.std.proofs.Common.{◌≡◌, ℕ, ◌≤◌, true, false, List, [], ◌∷◌, ◌++◌, map, take, refl, sym, ap, ◌∙◌, arith, IsPermutation}
use Rattle.std.specs.Prelude.{⊤, Bool}
use Rattle.std.specs.List.{AllByRecursion, flat_map}
use Rattle.std.proofs.lemmas.List.Sorted.{IsPermutation-refl, IsPermutation-trans, IsPermutation-append}
use Rattle.sc_finding.specs.Merging.{AscendsBy, gathered, merged}
use Rattle.sc_finding.proofs.MergeLemmas.{IsOrder, merged-all, merged-ascends, merged-moves, merged-nil, step-left, step-right, take-merged_left, take-merged_right}

module _ {X : Type 0} (before : X → X → Bool) where
  -- what all elements of the lists have

  gathered-all : (P : X → Type 0) (lists : List (List X)) → AllByRecursion (AllByRecursion P) lists → AllByRecursion P (gathered before lists)
  gathered-all P [] all = tt
  gathered-all P (xs ∷ lists) all = merged-all before P xs (gathered before lists) all.0 (gathered-all P lists all.1)

  pub gathered-moves : (lists : List (List X)) → IsPermutation (flat_map (λ (xs : List X). xs) lists) (gathered before lists)
  gathered-moves [] = IsPermutation-refl []
  gathered-moves (xs ∷ lists) =
      IsPermutation-trans (xs ++ flat_map (λ (ys : List X). ys) lists) (xs ++ gathered before lists) (merged before xs (gathered before lists))
      (IsPermutation-append xs xs (flat_map (λ (ys : List X). ys) lists) (gathered before lists) (IsPermutation-refl xs) (gathered-moves lists))
      (merged-moves before xs (gathered before lists))

  pub gathered-ascends : IsOrder before → (lists : List (List X)) → AllByRecursion (AscendsBy before) lists → AscendsBy before (gathered before lists)
  gathered-ascends order [] all = tt
  gathered-ascends order (xs ∷ lists) all = merged-ascends before order xs (gathered before lists) all.0 (gathered-ascends order lists all.1)

  -- the first element

  onto-least : (x : X) (xs ys : List X) → AllByRecursion (λ y. before x y ≡ true) ys → merged before (x ∷ xs) ys ≡ x ∷ merged before xs ys
  onto-least x xs [] all = ap (λ (l : List X). x ∷ l) (sym (merged-nil before xs))
  onto-least x xs (y ∷ ys) all = step-left before x xs y ys all.0

  -- the first element of the list does not go before x
  abbrev pub StartsAfter : X → List X → Type 0
  StartsAfter x [] = ⊤
  StartsAfter x (y ∷ ys) = before y x ≡ false

  -- of several lists the first element of one comes first: none of the lists before it begins with one that goes before it, and it goes
  -- before all of the lists after it
  pub gathered-first : (x : X) (xs : List X) (sooner later : List (List X)) → AllByRecursion (StartsAfter x) sooner
      → AllByRecursion (AllByRecursion (λ y. before x y ≡ true)) later
      → gathered before (sooner ++ ((x ∷ xs) ∷ later)) ≡ x ∷ gathered before (sooner ++ (xs ∷ later))
  gathered-first x xs [] later after all = onto-least x xs (gathered before later) (gathered-all (λ y. before x y ≡ true) later all)
  gathered-first x xs ([] ∷ sooner) later after all = gathered-first x xs sooner later after.1 all
  gathered-first x xs ((y ∷ ys) ∷ sooner) later after all =
      ap (merged before (y ∷ ys)) (gathered-first x xs sooner later after.1 all)
      ∙ step-right before y ys x (gathered before (sooner ++ (xs ∷ later))) after.0

  -- an empty list may be left out
  pub gathered-none : (sooner later : List (List X)) → gathered before (sooner ++ ([] ∷ later)) ≡ gathered before (sooner ++ later)
  gathered-none [] later = refl
  gathered-none (xs ∷ sooner) later = ap (merged before xs) (gathered-none sooner later)

  -- the first elements of lists that begin alike

  take-both : (most : ℕ) (a b u v : List X) → take most a ≡ take most u → take most b ≡ take most v
      → take most (merged before a b) ≡ take most (merged before u v)
  take-both most a b u v left right =
      let le : most ≤ most = omega arith in
      sym (take-merged_left before most most a b le)
      ∙ ap (λ (l : List X). take most (merged before l b)) left
      ∙ take-merged_left before most most u b le
      ∙ sym (take-merged_right before most most u b le)
      ∙ ap (λ (l : List X). take most (merged before u l)) right
      ∙ take-merged_right before most most u v le

  pub gathered-alike : (most : ℕ) (lists wholes : List (List X)) → map (take most) lists ≡ map (take most) wholes
      → take most (gathered before lists) ≡ take most (gathered before wholes)
  gathered-alike most [] [] same = refl
  gathered-alike most [] (w ∷ ws) same = cc
  gathered-alike most (l ∷ ls) [] same = cc
  gathered-alike most (l ∷ ls) (w ∷ ws) same =
      let here : take most l ≡ take most w = cc in
      let later : map (take most) ls ≡ map (take most) ws = cc in
      take-both most l (gathered before ls) w (gathered before ws) here (gathered-alike most ls ws later)
