-- What a search through a list finds, and the first elements of a list with one more.
use Rattle.std.proofs.Common.{◌≡◌, ◌∙◌, ℕ, zero, suc, ◌+◌, ◌<◌, Bool, true, false, List, [], ◌∷◌, ◌++◌, length, map, filter, take, slice_get, Some, None, Option, All, Contains, MatchOption, refl, sym, ap, subst, arith, length-take}
use Rattle.std.specs.List.{AllWithin, HoldsAt, take-map}
use Rattle.std.specs.Option.{option_map}
use Rattle.std.proofs.lemmas.List.{get_or-take, take_more}
use Rattle.std.proofs.lemmas.List.Elements.{All-map, filter-append}
use Rattle.std.proofs.lemmas.Option.{slice_get-map, slice_get_within, get_or_from_slice_get}

-- there is an element at each place of a list
pub some_at : {X : Type 0} (xs : List X) (k : ℕ) → k < length xs → (x : X) × (slice_get xs k ≡ Some x)
some_at [] k within = absurd (omega arith)
some_at (x ∷ xs) zero within = (x, refl)
some_at (x ∷ xs) (suc k) within = some_at xs k (omega arith)

-- what a search for the first element that passes a test gives
abbrev pub IsSearched : {A : Type 0} → (A → Bool) → List A → Option ℕ → Type 0
IsSearched p xs found =
    MatchOption found (AllWithin (λ x. p x ≡ false) xs 0 (length xs))
    (λ i. (i < length xs) × HoldsAt (λ x. p x ≡ true) xs i × AllWithin (λ x. p x ≡ false) xs 0 i)

-- it is the first
abbrev pub IsFirstThat : {A : Type 0} → (A → Bool) → List A → Option ℕ → Type 0
IsFirstThat {A} p xs found =
    MatchOption found (All (λ x. p x ≡ false) xs)
    (λ at. (x : A) × (slice_get xs at ≡ Some x) × (p x ≡ true) × All (λ other. p other ≡ false) (take at xs))

pub first_from_search : {A : Type 0} (p : A → Bool) (xs : List A) (found : Option ℕ) → IsSearched p xs found → IsFirstThat p xs found
first_from_search p xs None none = λ k d below. none k d (omega arith) below
first_from_search p xs (Some i) (within, here, before) =
    let (x, found) = some_at xs i within in (
      x,
      found,
      subst (λ y. p y ≡ true) (get_or_from_slice_get xs i x x found) (here x),
      λ k d below. let early : k < i = omega (arith, below, length-take i xs) in
          subst (λ y. p y ≡ false) (sym (get_or-take i xs k d early)) (before k d (omega arith) early),
    )

-- and so in what a function gives of the elements
pub first-mapped : {A B : Type 0} (p : B → Bool) (f : A → B) (xs : List A) (found : Option ℕ)
    → IsFirstThat (λ x. p (f x)) xs found → IsFirstThat p (map f xs) found
first-mapped p f xs None none = All-map (λ y. p y ≡ false) f xs none
first-mapped p f xs (Some at) (x, there, passes, before) = (
  f x,
  slice_get-map f xs at ∙ ap (option_map f) there,
  passes,
  subst (All (λ y. p y ≡ false)) (sym (take-map f at xs)) (All-map (λ y. p y ≡ false) f (take at xs) before),
)

-- what a search gives where it finds an element: one that is there and passes the test
pub found_passes : {A B : Type 0} (v : A → B) (p : B → Bool) (xs : List B) (found : Option A) (a : A)
    → MatchOption found (AllWithin (λ x. p x ≡ false) xs 0 (length xs))
    (λ x. (p (v x) ≡ true) × (i : ℕ) × (i < length xs) × HoldsAt (λ y. y ≡ v x) xs i × AllWithin (λ y. p y ≡ false) xs 0 i)
    → found ≡ Some a → Contains xs (v a) × (p (v a) ≡ true)
found_passes v p xs found a searched is =
    let here = subst (λ result. MatchOption result (AllWithin (λ x. p x ≡ false) xs 0 (length xs))
    (λ x. (p (v x) ≡ true) × (i : ℕ) × (i < length xs) × HoldsAt (λ y. y ≡ v x) xs i × AllWithin (λ y. p y ≡ false) xs 0 i)) is searched in
    ((here.1, here.2, here.3 (v a)), here.0)

-- the first elements and the next
pub take-next : {A : Type 0} (xs : List A) (at : ℕ) (x : A) → slice_get xs at ≡ Some x → take (at + 1) xs ≡ take at xs ++ x ∷ []
take-next xs at x there =
    take_more xs at x (slice_get_within xs at x there)
    ∙ ap (λ y. take at xs ++ y ∷ []) (get_or_from_slice_get xs at x x there)

-- those of them that pass a test
pub filter_take-next : {A : Type 0} (p : A → Bool) (xs : List A) (at : ℕ) (x : A) → slice_get xs at ≡ Some x
    → filter p (take at xs) ++ filter p (x ∷ []) ≡ filter p (take (at + 1) xs)
filter_take-next p xs at x there =
    sym (filter-append p (take at xs) (x ∷ [])) ∙ ap (filter p) (sym (take-next xs at x there))
