-- Sums over a list of which one element is changed.
use Rattle.std.proofs.Common.{◌≡◌, ℕ, zero, suc, ◌+◌, ◌<◌, ◌≤◌, List, [], ◌∷◌, length, set, sym, refl, ap, arith}
use Rattle.std.specs.List.{sum_by}
use Rattle.std.proofs.lemmas.List.Sums.{sum_by-cons}
use mathlib.Core.Option.{some, some-injective, some-ne-none}
use lib.ListN.{get_elem?}

-- where v becomes w, the sum loses what v counts and gains what w counts
pub sum_by-set-at : {A : Type 0} (f : A → ℕ) (xs : List A) (i : ℕ) (v w : A) → get_elem? xs i ≡ some v
    → sum_by f (set xs i w) + f v ≡ sum_by f xs + f w
sum_by-set-at f [] i v w e = absurd (some-ne-none v (sym e))
sum_by-set-at f (x ∷ xs) zero v w e =
    omega (arith, sum_by-cons f x xs, sum_by-cons f w xs, ap f (some-injective x v e))
sum_by-set-at f (x ∷ xs) (suc i) v w e =
    omega (arith, sum_by-cons f x xs, sum_by-cons f x (set xs i w), sum_by-set-at f xs i v w e)

-- a sum is no greater where each term is no greater
pub sum_by-le : {A : Type 0} (f g : A → ℕ) (xs : List A)
    → ((i : ℕ) (v : A) → get_elem? xs i ≡ some v → f v ≤ g v) → sum_by f xs ≤ sum_by g xs
sum_by-le f g [] h = omega arith
sum_by-le f g (x ∷ xs) h =
    omega (arith, sum_by-cons f x xs, sum_by-cons g x xs, h 0 x refl, sum_by-le f g xs (λ i. h (suc i)))

-- an element is read below the length alone
pub get_elem-inside : {A : Type 0} (l : List A) (i : ℕ) (a : A) → get_elem? l i ≡ some a → i < length l
get_elem-inside [] i a e = absurd (some-ne-none a (sym e))
get_elem-inside (x ∷ xs) zero a e = omega arith
get_elem-inside (x ∷ xs) (suc i) a e = let h = get_elem-inside xs i a e in omega arith
