-- Lists with one more element at their end, and filters of lists with places.
use Rattle.std.proofs.Common.{◌≡◌, ℕ, zero, suc, ◌+◌, ◌-◌, ◌<◌, ◌⊎◌, inl, inr, Option, Bool, true, false, not, ◌&&◌, cond, eqb, List, [], ◌∷◌, ◌++◌, length, map, refl, sym, ap, ◌∙◌, subst, Contains, Some, None, slice_get, arith, length-append}
use Rattle.std.specs.List.{filter, enumerate_from, count_by, filter_map, cons_option}
use Rattle.std.specs.List.Sorted.{IsStrictlyIncreasing}
use Rattle.std.proofs.lemmas.List.{map-id, append_assoc}
use Rattle.std.proofs.lemmas.List.Filters.{length-filter_both}
use Rattle.std.proofs.lemmas.List.Sums.{length-filter}
use Rattle.sc_cluster.proofs.OrderLemmas.{at_key, count_by-at_key}
use Rattle.sc_journal.specs.Journal.{last_of}

-- the element after a prefix
pub slice_get-append_end : {A : Type 0} (xs : List A) (x : A) (ys : List A)
    → slice_get (xs ++ x ∷ ys) (length xs) ≡ Some x
slice_get-append_end [] x ys = refl
slice_get-append_end (z ∷ xs) x ys = slice_get-append_end xs x ys

-- an element of a prefix
pub slice_get-append_left : {A : Type 0} (xs ys : List A) (k : ℕ) → k < length xs
    → slice_get (xs ++ ys) k ≡ slice_get xs k
slice_get-append_left [] ys k below = absurd (omega arith)
slice_get-append_left (x ∷ xs) ys zero below = refl
slice_get-append_left (x ∷ xs) ys (suc k) below = slice_get-append_left xs ys k (omega arith)

-- the last of a list that ends in x
pub last_of-append : {A : Type 0} (xs : List A) (x : A) → last_of (xs ++ x ∷ []) ≡ Some x
last_of-append xs x =
    let last : length (xs ++ x ∷ []) - 1 ≡ length xs = omega (arith, length-append xs (x ∷ [])) in
    ap (slice_get (xs ++ x ∷ [])) last ∙ slice_get-append_end xs x []

-- a list is empty, or ends in its last element
pub last_of_cases : {A : Type 0} (xs : List A)
    → ((xs ≡ []) × (last_of xs ≡ None)) ⊎ ((init : List A) × (x : A) × (xs ≡ init ++ x ∷ []) × (last_of xs ≡ Some x))
last_of_cases [] = inl (refl, refl)
last_of_cases {A} (z ∷ xs) = by (last_of_cases xs) where
  by : ((xs ≡ []) × (last_of xs ≡ None)) ⊎ ((init : List A) × (x : A) × (xs ≡ init ++ x ∷ []) × (last_of xs ≡ Some x))
      → ((z ∷ xs ≡ []) × (last_of (z ∷ xs) ≡ None))
      ⊎ ((init : List A) × (x : A) × (z ∷ xs ≡ init ++ x ∷ []) × (last_of (z ∷ xs) ≡ Some x))
  by (inl (none, last)) = inr ([], z, ap (λ ys. z ∷ ys) none, ap (λ ys. last_of (z ∷ ys)) none)
  by (inr (init, x, ends, last)) =
      let more : z ∷ xs ≡ z ∷ init ++ x ∷ [] = ap (λ ys. z ∷ ys) ends in
      inr (z ∷ init, x, more, ap last_of more ∙ last_of-append (z ∷ init) x)

-- an element of a list with one more at its end is that one, or one of the list's
pub split_last : {A : Type 0} (xs : List A) (x : A) (before : List A) (y : A) (after : List A)
    → xs ++ x ∷ [] ≡ before ++ y ∷ after
    → ((xs ≡ before) × (x ≡ y)) ⊎ ((rest : List A) × (xs ≡ before ++ y ∷ rest))
split_last [] x [] y after h = let same : x ≡ y = cc in inl (refl, same)
split_last [] x (b ∷ []) y after h = absurd (cc)
split_last [] x (b ∷ c ∷ before) y after h = absurd (cc)
split_last (z ∷ xs) x [] y after h = let same : z ≡ y = cc in inr (xs, ap (λ w. w ∷ xs) same)
split_last {A} (z ∷ xs) x (b ∷ before) y after h = by (split_last xs x before y after tail) where
  head : z ≡ b
  head = cc

  tail : xs ++ x ∷ [] ≡ before ++ y ∷ after
  tail = cc

  by : ((xs ≡ before) × (x ≡ y)) ⊎ ((rest : List A) × (xs ≡ before ++ y ∷ rest))
      → ((z ∷ xs ≡ b ∷ before) × (x ≡ y)) ⊎ ((rest : List A) × (z ∷ xs ≡ b ∷ before ++ y ∷ rest))
  by (inl (same, last)) = let both : z ∷ xs ≡ b ∷ before = cc in inl (both, last)
  by (inr (rest, same)) = let both : z ∷ xs ≡ b ∷ before ++ y ∷ rest = cc in inr (rest, both)

-- an element of a prefix and of what comes after it
pub append-cons : {A : Type 0} (xs : List A) (x : A) (ys : List A) → (xs ++ x ∷ []) ++ ys ≡ xs ++ x ∷ ys
append-cons xs x ys = append_assoc xs (x ∷ []) ys

-- places of a list with one more
pub enumerate_from-append : {A : Type 0} (n : ℕ) (xs ys : List A)
    → enumerate_from n (xs ++ ys) ≡ enumerate_from n xs ++ enumerate_from (n + length xs) ys
enumerate_from-append n [] ys = ap (λ m. enumerate_from m ys) (omega arith)
enumerate_from-append n (x ∷ xs) ys =
    ap (λ zs. (n, x) ∷ zs) (enumerate_from-append (n + 1) xs ys
    ∙ ap (λ m. enumerate_from (n + 1) xs ++ enumerate_from m ys) (omega arith))

-- a filter by a second test that reads what f gives
pub map-filter_and : {A B : Type 0} (f : A → B) (p : A → Bool) (r : B → Bool) (xs : List A)
    → map f (filter (λ x. p x && r (f x)) xs) ≡ filter r (map f (filter p xs))
map-filter_and f p r [] = refl
map-filter_and {A} {B} f p r (x ∷ xs) = by (p x) (r (f x)) refl (map-filter_and f p r xs) where
  these : List A
  these = filter (λ y. p y && r (f y)) xs

  those : List A
  those = filter p xs

  by : (t u : Bool) → r (f x) ≡ u → map f these ≡ filter r (map f those)
      → map f (cond (t && u) (x ∷ these) these) ≡ filter r (map f (cond t (x ∷ those) those))
  by true true is rest = rw is (ap (λ ys. f x ∷ ys) rest)
  by true false is rest = rw is rest
  by false u is rest = rest

-- one element less
pub length-filter_out : (place : ℕ) (xs : List ℕ) → IsStrictlyIncreasing xs → Contains xs place
    → length (filter (λ p. not (eqb p place)) xs) + 1 ≡ length xs
length-filter_out place xs up there =
    let is : ℕ → Bool = at_key (λ n. n) (λ _. true) place in
    let rising : IsStrictlyIncreasing (map (λ n. n) xs) = subst IsStrictlyIncreasing (sym (map-id xs)) up in
    let one : count_by is xs ≡ 1 = count_by-at_key (λ n. n) (λ _. true) place xs rising there in
    let both = length-filter_both is (λ p. not (eqb p place)) (λ p. other p (eqb p place)) xs in
    omega (arith, length-filter is xs) where
      other : (p : ℕ) (t : Bool) → not t ≡ not (t && true)
      other p true = refl
      other p false = refl

-- an element of a list, with what stands before it and after it
pub split_at : {A : Type 0} (xs : List A) (x : A) → Contains xs x
    → (before : List A) × (after : List A) × (xs ≡ before ++ x ∷ after)
split_at [] x (k, below, is) = absurd (omega arith)
split_at (y ∷ ys) x (zero, below, is) = ([], ys, ap (λ z. z ∷ ys) is)
split_at (y ∷ ys) x (suc k, below, is) =
    let rest = split_at ys x (k, omega arith, is) in
    (y ∷ rest.0, rest.1, ap (λ zs. y ∷ zs) rest.2)

-- what h gives comes from an element, with what stands before it and after it
pub split_filter_map : {A B : Type 0} (h : A → Option B) (xs : List A) (y : B) → Contains (filter_map h xs) y
    → (before : List A) × (x : A) × (after : List A) × (xs ≡ before ++ x ∷ after) × (h x ≡ Some y)
split_filter_map h [] y (k, below, is) = absurd (omega arith)
split_filter_map {A} {B} h (x ∷ xs) y there = by (λ more. later (split_filter_map h xs y more)) (h x) refl there where
  later : (before : List A) × (z : A) × (after : List A) × (xs ≡ before ++ z ∷ after) × (h z ≡ Some y)
      → (before : List A) × (z : A) × (after : List A) × (x ∷ xs ≡ before ++ z ∷ after) × (h z ≡ Some y)
  later (before, z, after, is, made) = (x ∷ before, z, after, ap (λ zs. x ∷ zs) is, made)

  by : (Contains (filter_map h xs) y
      → (before : List A) × (z : A) × (after : List A) × (x ∷ xs ≡ before ++ z ∷ after) × (h z ≡ Some y))
      → (made : Option B) → h x ≡ made → Contains (cons_option made (filter_map h xs)) y
      → (before : List A) × (z : A) × (after : List A) × (x ∷ xs ≡ before ++ z ∷ after) × (h z ≡ Some y)
  by rest None is more = rest more
  by rest (Some made) is (zero, below, same) = ([], x, xs, refl, is ∙ ap (λ (b : B). Some b) same)
  by rest (Some made) is (suc k, below, same) = rest (k, omega arith, same)
