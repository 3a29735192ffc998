-- What a list has at each place once one of its places was set, and what a slot's list of one at most has.
use Rattle.std.proofs.Common.{◌≡◌, ◌≢◌, ℕ, zero, suc, ◌<◌, ◌≤◌, List, [], ◌∷◌, ◌++◌, length, set, Some, None, slice_get, refl, ap, arith}
use Rattle.std.specs.Prelude.{IsSome}
use Rattle.std.proofs.lemmas.List.{length_push}

-- at the place that was set
pub slice_get-set_same : {A : Type 0} (xs : List A) (i : ℕ) (x : A) → i < length xs → slice_get (set xs i x) i ≡ Some x
slice_get-set_same [] i x within = absurd (omega arith)
slice_get-set_same (y ∷ xs) zero x within = refl
slice_get-set_same (y ∷ xs) (suc i) x within = slice_get-set_same xs i x (omega arith)

-- and at every other
pub slice_get-set_other : {A : Type 0} (xs : List A) (i k : ℕ) (x : A) → k ≢ i
    → slice_get (set xs i x) k ≡ slice_get xs k
slice_get-set_other [] i k x other = refl
slice_get-set_other (y ∷ xs) zero zero x other = absurd (other refl)
slice_get-set_other (y ∷ xs) zero (suc k) x other = refl
slice_get-set_other (y ∷ xs) (suc i) zero x other = refl
slice_get-set_other (y ∷ xs) (suc i) (suc k) x other =
    slice_get-set_other xs i k x (λ same. other (ap suc same))

-- the list has something, where it has something at its first place
pub first_is_there : {A : Type 0} (xs : List A) → IsSome (slice_get xs 0) → 0 < length xs
first_is_there [] there = absurd (cc)
first_is_there (x ∷ xs) there = omega arith

-- it has nothing, where it has nothing at its first place
pub first_is_missing : {A : Type 0} (xs : List A) → slice_get xs 0 ≡ None → xs ≡ []
first_is_missing [] missing = refl
first_is_missing (x ∷ xs) missing = absurd (cc)

-- the last of one at most was the first, and nothing is left
pub last_of_one : {A : Type 0} (old new : List A) (x : A) → length old ≤ 1 → old ≡ new ++ x ∷ []
    → (slice_get old 0 ≡ Some x) × (slice_get new 0 ≡ None)
last_of_one old [] x few same = (ap (λ xs. slice_get xs 0) same, refl)
last_of_one old (y ∷ new) x few same =
    let longer = ap length same in
    let rest = length_push new x in
    absurd (omega (arith, few, longer, rest))
