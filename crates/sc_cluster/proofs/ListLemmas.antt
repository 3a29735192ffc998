-- Lists filtered and mapped.
use Rattle.std.proofs.Common.{◌≡◌, ◌≢◌, ℕ, zero, suc, ◌<◌, ◌≤◌, Bool, true, false, cond, List, [], ◌∷◌, length, get_or, map, refl, sym, ap, ◌∙◌, All, Contains, Some, slice_get, arith, ◌⊎◌, inl, inr}
use Rattle.std.specs.List.{filter, AllPairs}
use Rattle.std.proofs.Math.Path.{fun_ext}
use Rattle.std.proofs.lemmas.Simd.{map-map}
use Rattle.std.proofs.lemmas.Bool.{cases_lt}
use Rattle.std.proofs.lemmas.List.{get_or-map, get_or_default, length-map}
use Rattle.std.proofs.lemmas.List.Elements.{All-nil, All-cons, All-head, All-tail, All-contains, All-filter, All-contains_itself, filter_passes}
use Rattle.std.proofs.lemmas.Option.{slice_get-get_or}

-- a map that keeps what f gives of each element
pub map-map_kept : {A B : Type 0} (f : A → B) (g : A → A) → ((x : A) → f (g x) ≡ f x) → (xs : List A)
    → map f (map g xs) ≡ map f xs
map-map_kept f g kept xs = map-map f g xs ∙ ap (λ h. map h xs) (fun_ext kept)

-- a filter of a list that is mapped
pub filter-map : {A B : Type 0} (p : B → Bool) (f : A → B) (xs : List A)
    → filter p (map f xs) ≡ map f (filter (λ x. p (f x)) xs)
filter-map p f [] = refl
filter-map {A} p f (x ∷ xs) = by (p (f x)) (filter-map p f xs) where
  kept : List A
  kept = filter (λ y. p (f y)) xs

  by : (t : Bool) → filter p (map f xs) ≡ map f kept
      → cond t (f x ∷ filter p (map f xs)) (filter p (map f xs)) ≡ map f (cond t (x ∷ kept) kept)
  by true rest = ap (λ ys. f x ∷ ys) rest
  by false rest = rest

-- a filter that no element passes, and one that all pass; what passes a filter that leaves nothing
pub filter-none : {A : Type 0} (p : A → Bool) (xs : List A) → All (λ x. p x ≡ false) xs → filter p xs ≡ []
filter-none p [] fail = refl
filter-none p (x ∷ xs) fail =
    let first : p x ≡ false = All-head (λ y. p y ≡ false) x xs fail in
    rw first (filter-none p xs (All-tail (λ y. p y ≡ false) x xs fail))

pub filter-all : {A : Type 0} (p : A → Bool) (xs : List A) → All (λ x. p x ≡ true) xs → filter p xs ≡ xs
filter-all p [] pass = refl
filter-all p (x ∷ xs) pass =
    let first : p x ≡ true = All-head (λ y. p y ≡ true) x xs pass in
    rw first (ap (λ ys. x ∷ ys) (filter-all p xs (All-tail (λ y. p y ≡ true) x xs pass)))

pub none_from_filter : {A : Type 0} (p : A → Bool) (xs : List A) → filter p xs ≡ [] → All (λ x. p x ≡ false) xs
none_from_filter p [] none = All-nil (λ y. p y ≡ false)
none_from_filter p (x ∷ xs) none = by (p x) refl none (none_from_filter p xs) where
  by : (t : Bool) → p x ≡ t → cond t (x ∷ filter p xs) (filter p xs) ≡ []
      → (filter p xs ≡ [] → All (λ y. p y ≡ false) xs) → All (λ y. p y ≡ false) (x ∷ xs)
  by true is empty rest = cc
  by false is empty rest = All-cons (λ y. p y ≡ false) x xs is (rest empty)

-- a filter of what a weaker one left
pub filter-filter : {A : Type 0} (p q : A → Bool) → ((x : A) → p x ≡ true → q x ≡ true) → (xs : List A)
    → filter p (filter q xs) ≡ filter p xs
filter-filter p q weaker [] = refl
filter-filter p q weaker (x ∷ xs) = by (q x) refl (p x) refl (filter-filter p q weaker xs) where
  by : (t : Bool) → q x ≡ t → (u : Bool) → p x ≡ u → filter p (filter q xs) ≡ filter p xs
      → filter p (cond t (x ∷ filter q xs) (filter q xs)) ≡ cond u (x ∷ filter p xs) (filter p xs)
  by true e true f rest = rw f (ap (λ ys. x ∷ ys) rest)
  by true e false f rest = rw f rest
  by false e true f rest = let passes = weaker x f in cc
  by false e false f rest = rest

-- elements of a list that is mapped or filtered
pub Contains-map : {A B : Type 0} (f : A → B) (xs : List A) (x : A) → Contains xs x → Contains (map f xs) (f x)
Contains-map f xs x (k, below, is) =
    (k, omega (arith, length-map xs f), get_or-map f xs k x (f x) below ∙ ap f is)

pub Contains-filter : {A : Type 0} (p : A → Bool) (xs : List A) (x : A) → Contains xs x → p x ≡ true
    → Contains (filter p xs) x
Contains-filter p [] x (k, below, is) pass = absurd (omega arith)
Contains-filter p (y ∷ ys) x (zero, below, is) pass =
    let first : p y ≡ true = ap p is ∙ pass in rw first (0, omega arith, is)
Contains-filter p (y ∷ ys) x (suc k, below, is) pass =
    by (p y) (Contains-filter p ys x (k, omega arith, is) pass) where
      by : (t : Bool) → Contains (filter p ys) x → Contains (cond t (y ∷ filter p ys) (filter p ys)) x
      by true (j, inside, found) = (suc j, omega arith, found)
      by false there = there

pub Contains-from_filter : {A : Type 0} (p : A → Bool) (xs : List A) (x : A) → Contains (filter p xs) x
    → Contains xs x × (p x ≡ true)
Contains-from_filter p xs x there = (
  All-contains (Contains xs) (filter p xs) x (All-filter p (Contains xs) xs (All-contains_itself xs)) there,
  All-contains (λ y. p y ≡ true) (filter p xs) x (filter_passes p xs) there,
)

-- what holds of each element by its place
pub All-from_slice_get : {A : Type 0} (P : A → Type 0) (xs : List A)
    → ((i : ℕ) (x : A) → slice_get xs i ≡ Some x → P x) → All P xs
All-from_slice_get P xs each k d below = each k (get_or xs k d) (slice_get-get_or xs k d below)

-- what f gives of each element, by its place
pub get_or-map_counted : {A B : Type 0} (f : A → B) (value : ℕ → B) (xs : List A)
    → ((i : ℕ) (x : A) → slice_get xs i ≡ Some x → f x ≡ value i)
    → (k : ℕ) (e : B) → k < length xs → get_or (map f xs) k e ≡ value k
get_or-map_counted f value [] each k e below = absurd (omega arith)
get_or-map_counted f value (x ∷ xs) each k e below =
    get_or-map f (x ∷ xs) k x e below ∙ each k (get_or (x ∷ xs) k x) (slice_get-get_or (x ∷ xs) k x below)

-- two elements with the same value under f are the same, if no two places have the same
pub same_from_key : {A B : Type 0} (f : A → B) (xs : List A) (x y : A) → AllPairs (λ u v. u ≢ v) (map f xs)
    → Contains xs x → Contains xs y → f x ≡ f y → x ≡ y
same_from_key f xs x y apart (i, i_below, x_is) (j, j_below, y_is) same = by (cases_lt i j) (cases_lt j i) where
  at_i : get_or (map f xs) i (f x) ≡ f x
  at_i = get_or-map f xs i x (f x) i_below ∙ ap f x_is

  at_j : get_or (map f xs) j (f x) ≡ f y
  at_j = get_or-map f xs j y (f x) j_below ∙ ap f y_is

  by : (i < j) ⊎ (j ≤ i) → (j < i) ⊎ (i ≤ j) → x ≡ y
  by (inl less) other =
      absurd (apart i j (f x) less (omega (arith, length-map xs f)) (at_i ∙ same ∙ sym at_j))
  by (inr most) (inl less) =
      absurd (apart j i (f x) less (omega (arith, length-map xs f)) (at_j ∙ sym same ∙ sym at_i))
  by (inr most) (inr least) =
      let place : i ≡ j = omega arith in
      sym x_is ∙ get_or_default xs i x y i_below ∙ ap (λ k. get_or xs k y) place ∙ y_is
