-- Of lists: one more item, and the one item that passes a test.
use Rattle.std.proofs.Common.{◌≡◌, ◌≤◌, ◌<◌, ℕ, zero, suc, Bool, true, false, cond, List, [], ◌∷◌, ◌++◌, length, map, get_or, take, drop, slice_get, Some, Contains, count_by, find, refl, sym, ◌∙◌, ap, subst, arith}
use Rattle.std.proofs.lemmas.List.{take_at, length-map}
use Rattle.std.proofs.lemmas.List.Sums.{sum_by-cons, get_or-le-sum_by}
use Rattle.std.proofs.lemmas.Option.{same_Some, none-some}

-- what holds of each item at its place holds with one more item at the end
pub each_push : {X : Type 0} (P : ℕ → X → Type 0) (xs : List X) (y : X) → ((i : ℕ) (x : X) → slice_get xs i ≡ Some x → P i x)
    → P (length xs) y → (i : ℕ) (x : X) → slice_get (xs ++ y ∷ []) i ≡ Some x → P i x
each_push P [] y each here zero x at = subst (P 0) (same_Some y x at) here
each_push P [] y each here (suc i) x at = absurd (none-some x at)
each_push P (z ∷ xs) y each here zero x at = each 0 x at
each_push P (z ∷ xs) y each here (suc i) x at = each_push (λ j v. P (suc j) v) xs y (λ j v. each (suc j) v) here i x at

abbrev weight : Bool → ℕ
weight b = cond b 1 0

-- the first item that passes
abbrev pub Found : {X : Type 0} → (X → Bool) → List X → Type 0
Found {X} p xs = (x : X) × (find p xs ≡ Some x) × Contains xs x × (p x ≡ true)

found_cons : {X : Type 0} (p : X → Bool) (x : X) (xs : List X) (b : Bool) → p x ≡ b → (b ≡ false → Found p xs) → Found p (x ∷ xs)
found_cons p x xs true passes rest = (x, rw passes refl, (0, omega arith, refl), passes)
found_cons p x xs false fails rest =
    let found = rest refl in
    (found.0, rw fails found.1, (suc found.2.0, omega (arith, found.2.1), found.2.2), found.3)

-- where an item passes, one is found
pub find_from_count : {X : Type 0} (p : X → Bool) (xs : List X) → 0 < count_by p xs → Found p xs
find_from_count p [] some = absurd (omega arith)
find_from_count p (x ∷ xs) some =
    found_cons p x xs (p x) refl (λ fails. find_from_count p xs (omega (arith, sum_by-cons (λ z. cond (p z) 1 0) x xs, ap {B = ℕ} (λ b. cond b 1 0) fails)))

-- an item that passes is counted
pub count_by-positive : {X : Type 0} (p : X → Bool) (xs : List X) (x : X) → Contains xs x → p x ≡ true → 1 ≤ count_by p xs
count_by-positive p xs x here passes =
    omega (arith, get_or-le-sum_by (λ z. cond (p z) 1 0) xs here.0 x here.1, ap {B = ℕ} (λ z. cond (p z) 1 0) here.2, ap {B = ℕ} (λ b. cond b 1 0) passes)

same_at : {X : Type 0} (p : X → Bool) (xs : List X) (x y : X) (i j : ℕ) → count_by p xs ≤ 1 → i < length xs → j < length xs
    → get_or xs i x ≡ x → get_or xs j y ≡ y → p x ≡ true → p y ≡ true → x ≡ y
same_at p [] x y i j one i_in j_in x_at y_at x_passes y_passes = absurd (omega arith)
same_at p (z ∷ xs) x y zero zero one i_in j_in x_at y_at x_passes y_passes = sym x_at ∙ y_at
same_at p (z ∷ xs) x y zero (suc j) one i_in j_in x_at y_at x_passes y_passes =
    let first : weight (p z) ≡ 1 = ap (λ v. weight (p v)) x_at ∙ ap weight x_passes in
    absurd (omega (arith, sum_by-cons (λ v. cond (p v) 1 0) z xs, count_by-positive p xs y (j, omega arith, y_at) y_passes))
same_at p (z ∷ xs) x y (suc i) zero one i_in j_in x_at y_at x_passes y_passes =
    let first : weight (p z) ≡ 1 = ap (λ v. weight (p v)) y_at ∙ ap weight y_passes in
    absurd (omega (arith, sum_by-cons (λ v. cond (p v) 1 0) z xs, count_by-positive p xs x (i, omega arith, x_at) x_passes))
same_at p (z ∷ xs) x y (suc i) (suc j) one i_in j_in x_at y_at x_passes y_passes =
    same_at p xs x y i j (omega (arith, sum_by-cons (λ v. cond (p v) 1 0) z xs)) (omega arith) (omega arith) x_at y_at x_passes y_passes

-- where one item passes, those that pass are the same
pub same_from_count : {X : Type 0} (p : X → Bool) (xs : List X) (x y : X) → count_by p xs ≡ 1
    → Contains xs x → p x ≡ true → Contains xs y → p y ≡ true → x ≡ y
same_from_count p xs x y one x_in x_passes y_in y_passes =
    same_at p xs x y x_in.0 y_in.0 (omega arith) x_in.1 y_in.1 x_in.2 y_in.2 x_passes y_passes

-- what a vector has once a map of its items is written over them
pub take-written_map : {X : Type 0} (f : X → X) (n : ℕ) (new old : List X) → n ≡ length old → new ≡ map f old
    → take n (new ++ drop (length new) old) ≡ map f old
take-written_map f n new old whole is =
    take_at new (drop (length new) old) n (ap length is ∙ length-map old f ∙ sym whole) ∙ is
