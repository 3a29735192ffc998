-- Counts of the elements that pass a test.
use Rattle.std.proofs.Common.{◌≡◌, ℕ, ◌+◌, Bool, true, false, cond, ◌&&◌, List, [], ◌∷◌, map, refl, All, arith}
use Rattle.std.specs.List.{count_by, filter}
use Rattle.std.proofs.lemmas.List.Sums.{sum_by-cons}
use Rattle.std.proofs.lemmas.List.Elements.{All-head, All-tail}

-- one element more
pub count_by-cons : {A : Type 0} (p : A → Bool) (x : A) (xs : List A)
    → count_by p (x ∷ xs) ≡ cond (p x) 1 0 + count_by p xs
count_by-cons p x xs = sum_by-cons (λ y. cond (p y) 1 0) x xs

-- counts of a list that is mapped or filtered
pub count_by-map : {A B : Type 0} (f : A → B) (p : B → Bool) (xs : List A)
    → count_by p (map f xs) ≡ count_by (λ x. p (f x)) xs
count_by-map f p [] = refl
count_by-map f p (x ∷ xs) =
    omega (arith, count_by-cons p (f x) (map f xs), count_by-cons (λ y. p (f y)) x xs, count_by-map f p xs)

pub count_by-filter : {A : Type 0} (p q : A → Bool) (xs : List A)
    → count_by p (filter q xs) ≡ count_by (λ x. q x && p x) xs
count_by-filter p q [] = refl
count_by-filter p q (x ∷ xs) =
    omega (arith, by (q x), count_by-cons (λ y. q y && p y) x xs, count_by-filter p q xs) where
      by : (t : Bool)
          → count_by p (cond t (x ∷ filter q xs) (filter q xs)) ≡ cond (t && p x) 1 0 + count_by p (filter q xs)
      by true = count_by-cons p x (filter q xs)
      by false = omega arith

-- no element passes
pub count_by-none : {A : Type 0} (p : A → Bool) (xs : List A) → All (λ x. p x ≡ false) xs → count_by p xs ≡ 0
count_by-none p [] fail = refl
count_by-none p (x ∷ xs) fail =
    let first : p x ≡ false = All-head (λ y. p y ≡ false) x xs fail in
    let none : cond {A = ℕ} (p x) 1 0 ≡ 0 = rw first refl in
    omega (arith, count_by-cons p x xs, count_by-none p xs (All-tail (λ y. p y ≡ false) x xs fail))

-- two counts and two others that balance at each element
pub count_by-balance : {A : Type 0} (p q r s : A → Bool)
    → ((x : A) → cond (p x) 1 0 + cond (q x) 1 0 ≡ cond (r x) 1 0 + cond (s x) 1 0)
    → (xs : List A) → count_by p xs + count_by q xs ≡ count_by r xs + count_by s xs
count_by-balance p q r s each [] = refl
count_by-balance p q r s each (x ∷ xs) =
    let here = each x in
    let rest = count_by-balance p q r s each xs in
    omega (arith, count_by-cons p x xs, count_by-cons q x xs, count_by-cons r x xs, count_by-cons s x xs)
