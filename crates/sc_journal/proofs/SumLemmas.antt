-- Sums and counts over lists: of two functions that agree, or that differ at one element alone.
use Rattle.std.proofs.Common.{◌≡◌, ◌≢◌, ◌∙◌, ℕ, suc, ◌+◌, Bool, true, false, cond, ◌&&◌, eqb, List, [], ◌∷◌, length, map, filter, All, Contains, refl, sym, ap, subst, arith}
use Rattle.std.specs.List.{count_by, sum_by, flat_map}
use Rattle.std.specs.List.Sorted.{IsStrictlyIncreasing}
use Rattle.std.proofs.lemmas.Bool.{eq-eqb, eqb-true, false≢true}
use Rattle.std.proofs.lemmas.List.Concat.{flat_map-cons}
use Rattle.std.proofs.lemmas.List.Elements.{All-nil, All-head, All-tail, All-append, All-weaker, All-contains_itself}
use Rattle.std.proofs.lemmas.List.Sums.{sum_by-cons}
use Rattle.sc_cluster.proofs.CountLemmas.{count_by-cons}
use Rattle.sc_cluster.proofs.OrderLemmas.{same_from_rising_key, at_key, count_by-at_key}

-- a sum of two functions that make another at each element
pub sum_by-parts : {A : Type 0} (f g h : A → ℕ) (xs : List A) → All (λ x. f x + g x ≡ h x) xs
    → sum_by f xs + sum_by g xs ≡ sum_by h xs
sum_by-parts f g h [] each = refl
sum_by-parts {A} f g h (x ∷ xs) each =
    let here = All-head (λ (y : A). f y + g y ≡ h y) x xs each in
    let rest = sum_by-parts f g h xs (All-tail (λ (y : A). f y + g y ≡ h y) x xs each) in
    omega (arith, here, rest, sum_by-cons f x xs, sum_by-cons g x xs, sum_by-cons h x xs)

-- sums of two functions that agree at each element
pub sum_by-agree : {A : Type 0} (f g : A → ℕ) (xs : List A) → All (λ x. f x ≡ g x) xs → sum_by f xs ≡ sum_by g xs
sum_by-agree f g [] each = refl
sum_by-agree {A} f g (x ∷ xs) each =
    let here = All-head (λ (y : A). f y ≡ g y) x xs each in
    let rest = sum_by-agree f g xs (All-tail (λ (y : A). f y ≡ g y) x xs each) in
    omega (arith, here, rest, sum_by-cons f x xs, sum_by-cons g x xs)

-- sums over a list that is mapped or filtered
pub sum_by-map : {A B : Type 0} (f : B → ℕ) (g : A → B) (xs : List A) → sum_by f (map g xs) ≡ sum_by (λ x. f (g x)) xs
sum_by-map f g [] = refl
sum_by-map f g (x ∷ xs) =
    omega (arith, sum_by-map f g xs, sum_by-cons f (g x) (map g xs), sum_by-cons (λ y. f (g y)) x xs)

pub sum_by-filter : {A : Type 0} (f : A → ℕ) (p : A → Bool) (xs : List A)
    → sum_by f (filter p xs) ≡ sum_by (λ x. cond (p x) (f x) 0) xs
sum_by-filter f p [] = refl
sum_by-filter {A} f p (x ∷ xs) =
    omega (arith, by (p x), sum_by-filter f p xs, sum_by-cons (λ (y : A). cond {A = ℕ} (p y) (f y) 0) x xs) where
      by : (t : Bool)
          → sum_by f (cond t (x ∷ filter p xs) (filter p xs)) ≡ cond t (f x) 0 + sum_by f (filter p xs)
      by true = sum_by-cons f x (filter p xs)
      by false = omega arith

-- two functions that agree but where a test passes, where it passes nowhere
sum_by-apart : {A : Type 0} (at : A → Bool) (f g : A → ℕ) → ((y : A) → at y ≡ false → f y ≡ g y) → (xs : List A)
    → count_by at xs ≡ 0 → sum_by f xs ≡ sum_by g xs
sum_by-apart at f g same [] none = refl
sum_by-apart {A} at f g same (x ∷ xs) none = by (sum_by-apart at f g same xs) (at x) refl where
  by : (count_by at xs ≡ 0 → sum_by f xs ≡ sum_by g xs) → (t : Bool) → at x ≡ t
      → sum_by f (x ∷ xs) ≡ sum_by g (x ∷ xs)
  by rest true is =
      let one : cond {A = ℕ} (at x) 1 0 ≡ 1 = ap (λ t. cond t 1 0) is in
      absurd (omega (arith, none, one, count_by-cons at x xs))
  by rest false is =
      let none_here : cond {A = ℕ} (at x) 1 0 ≡ 0 = ap (λ t. cond t 1 0) is in
      let later = rest (omega (arith, none, none_here, count_by-cons at x xs)) in
      omega (arith, same x is, later, sum_by-cons f x xs, sum_by-cons g x xs)

-- and where it passes at one element alone
sum_by-once : {A : Type 0} (at : A → Bool) (f g : A → ℕ) (m n : ℕ) → ((y : A) → at y ≡ false → f y ≡ g y)
    → (xs : List A) → All (λ y. at y ≡ true → f y + m ≡ g y + n) xs
    → count_by at xs ≡ 1 → sum_by f xs + m ≡ sum_by g xs + n
sum_by-once at f g m n same [] each once = absurd (omega (arith, once))
sum_by-once {A} at f g m n same (x ∷ xs) each once =
    by (sum_by-once at f g m n same xs (All-tail (λ (y : A). at y ≡ true → f y + m ≡ g y + n) x xs each)) (at x) refl
  where
    by : (count_by at xs ≡ 1 → sum_by f xs + m ≡ sum_by g xs + n) → (t : Bool) → at x ≡ t
        → sum_by f (x ∷ xs) + m ≡ sum_by g (x ∷ xs) + n
    by rest true is =
        let one : cond {A = ℕ} (at x) 1 0 ≡ 1 = ap (λ t. cond t 1 0) is in
        let here = All-head (λ (y : A). at y ≡ true → f y + m ≡ g y + n) x xs each is in
        let later = sum_by-apart at f g same xs (omega (arith, once, one, count_by-cons at x xs)) in
        omega (arith, here, later, sum_by-cons f x xs, sum_by-cons g x xs)
    by rest false is =
        let none : cond {A = ℕ} (at x) 1 0 ≡ 0 = ap (λ t. cond t 1 0) is in
        let later = rest (omega (arith, once, none, count_by-cons at x xs)) in
        omega (arith, same x is, later, sum_by-cons f x xs, sum_by-cons g x xs)

-- two functions that differ at one element of a list alone, by a key that rises
pub sum_by-one : {A : Type 0} (key : A → ℕ) (f g : A → ℕ) (x : A) (xs : List A) → IsStrictlyIncreasing (map key xs)
    → Contains xs x → ((y : A) → key y ≢ key x → f y ≡ g y) → sum_by f xs + g x ≡ sum_by g xs + f x
sum_by-one {A} key f g x xs up there same =
    let at : A → Bool = at_key key (λ _. true) x in
    sum_by-once at f g (g x) (f x) other xs
    (All-weaker (Contains xs) (λ y. at y ≡ true → f y + g x ≡ g y + f x) own xs (All-contains_itself xs))
    (count_by-at_key key (λ _. true) x xs up there)
  where
    and_true : (b : Bool) → b && true ≡ b
    and_true true = refl
    and_true false = refl

    other : (y : A) → at_key key (λ _. true) x y ≡ false → f y ≡ g y
    other y is =
        let differs : eqb (key y) (key x) ≡ false = sym (and_true (eqb (key y) (key x))) ∙ is in
        same y (λ is_same. false≢true (sym differs ∙ eq-eqb (key y) (key x) is_same))

    own : (y : A) → Contains xs y → at_key key (λ _. true) x y ≡ true → f y + g x ≡ g y + f x
    own y inside is =
        let equal : eqb (key y) (key x) ≡ true = sym (and_true (eqb (key y) (key x))) ∙ is in
        let this : y ≡ x = same_from_rising_key key xs y x up inside there (eqb-true (key y) (key x) equal) in
        let left = ap f this in
        let right = ap g this in
        omega (arith, left, right)

-- what is true of each element of lists that are joined
pub All-joined : {A B : Type 0} (P : B → Type 0) (f : A → List B) (xs : List A)
    → ((x : A) → Contains xs x → All P (f x)) → All P (flat_map f xs)
All-joined P f [] each = All-nil P
All-joined P f (x ∷ xs) each =
    let rest = All-joined P f xs (λ y there. each y (suc there.0, omega (arith, there.1), there.2)) in
    subst (All P) (sym (flat_map-cons f x xs)) (All-append P (f x) (flat_map f xs) (each x (0, omega arith, refl)) rest)

-- all pass
pub count_by-all : {A : Type 0} (p : A → Bool) (xs : List A) → All (λ x. p x ≡ true) xs → count_by p xs ≡ length xs
count_by-all p [] pass = refl
count_by-all {A} p (x ∷ xs) pass =
    let here : cond {A = ℕ} (p x) 1 0 ≡ 1 = ap (λ t. cond t 1 0) (All-head (λ (y : A). p y ≡ true) x xs pass) in
    let rest = count_by-all p xs (All-tail (λ (y : A). p y ≡ true) x xs pass) in
    omega (arith, here, rest, count_by-cons p x xs)
