-- The elements of a mapped list, and what holds of each two elements of a list.
use Rattle.std.proofs.Common.{◌≡◌, ◌⊎◌, ℕ, ◌+◌, ◌-◌, ◌<◌, ◌≤◌, List, [], ◌∷◌, ◌++◌, length, get_or, map, AllPairs, Contains, refl, sym, subst₂, inl, inr, arith, length-append}
use Rattle.std.proofs.lemmas.Bool.{cases_lt}
use Rattle.std.proofs.lemmas.List.{length-map, get_or-map, get_or_append_left, get_or-append_right}
use Rattle.std.proofs.lemmas.List.Elements.{All-map, All-weaker, All-contains, All-contains_itself, Contains-get_or}

-- an element of a mapped list comes from one of the list
pub Contains-from_map : {A B : Type 0} (f : A → B) (xs : List A) (y : B) → Contains (map f xs) y
    → (x : A) × Contains xs x × (f x ≡ y)
Contains-from_map {A} {B} f xs y there =
    let IsMade : B → Type 0 = λ z. (x : A) × Contains xs x × (f x ≡ z) in
    let itself = All-contains_itself xs in
    let each = All-weaker (Contains xs) (λ x. IsMade (f x)) (λ x inside. (x, inside, refl)) xs itself in
    All-contains IsMade (map f xs) y (All-map IsMade f xs each) there

-- each two elements of a mapped list come from two of the list
pub AllPairs-map : {A B : Type 0} (R : B → B → Type 0) (f : A → B) (xs : List A) → AllPairs (λ a b. R (f a) (f b)) xs
    → AllPairs R (map f xs)
AllPairs-map R f [] pairs i j d before within = absurd (omega arith)
AllPairs-map R f (x ∷ xs) pairs i j d before within =
    let inside : j < length (x ∷ xs) = omega (arith, length-map (x ∷ xs) f) in
    let at_i = get_or-map f (x ∷ xs) i x d (omega arith) in
    let at_j = get_or-map f (x ∷ xs) j x d inside in
    subst₂ R (sym at_i) (sym at_j) (pairs i j x before inside)

-- the way back
pub AllPairs-from_map : {A B : Type 0} (R : B → B → Type 0) (f : A → B) (xs : List A) → AllPairs R (map f xs)
    → AllPairs (λ a b. R (f a) (f b)) xs
AllPairs-from_map R f xs pairs i j d before within =
    let at_i = get_or-map f xs i d (f d) (omega arith) in
    let at_j = get_or-map f xs j d (f d) within in
    subst₂ R at_i at_j (pairs i j (f d) before (omega (arith, length-map xs f)))

-- two elements of one list after another are of the first, of the second, or one of each
pub AllPairs-append : {A : Type 0} (R : A → A → Type 0) (xs ys : List A) → AllPairs R xs → AllPairs R ys
    → ((x y : A) → Contains xs x → Contains ys y → R x y) → AllPairs R (xs ++ ys)
AllPairs-append R xs ys left right across i j d before within = by (cases_lt i (length xs)) (cases_lt j (length xs))
  where
    low : (k : ℕ) → k < length xs → get_or (xs ++ ys) k d ≡ get_or xs k d
    low k early = get_or_append_left xs ys d k early

    high : (k : ℕ) → length xs ≤ k → get_or (xs ++ ys) k d ≡ get_or ys (k - length xs) d
    high k late = get_or-append_right xs ys (length xs) k d refl late

    inside : j < length xs + length ys
    inside = omega (arith, length-append xs ys)

    by : (i < length xs) ⊎ (length xs ≤ i) → (j < length xs) ⊎ (length xs ≤ j)
        → R (get_or (xs ++ ys) i d) (get_or (xs ++ ys) j d)
    by _ (inl early) = subst₂ R (sym (low i (omega arith))) (sym (low j early)) (left i j d before early)
    by (inl early) (inr late) =
        let first = Contains-get_or xs i d early in
        let second = Contains-get_or ys (j - length xs) d (omega (arith, inside)) in
        subst₂ R (sym (low i early)) (sym (high j late)) (across _ _ first second)
    by (inr late) (inr later) =
        let pair = right (i - length xs) (j - length xs) d (omega arith) (omega (arith, inside)) in
        subst₂ R (sym (high i late)) (sym (high j later)) pair
