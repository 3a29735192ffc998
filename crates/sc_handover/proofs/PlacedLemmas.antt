-- Lists in which elements at one or two places were changed, and seats that two cores changed.
use Rattle.std.proofs.Common.{◌≡◌, ◌≢◌, ◌⊎◌, ◌∙◌, inl, inr, ℕ, zero, suc, ◌<◌, ◌≤◌, Bool, true, false, cond, not, ◌||◌, eqb, List, [], ◌∷◌, length, filter, map, set, slice_get, Option, Some, None, All, refl, sym, ap, subst, arith}
use Rattle.std.specs.Option.{option_map}
use Rattle.std.proofs.lemmas.Bool.{cases_eq, ne_eqb, eq-eqb}
use Rattle.std.proofs.lemmas.List.{set_comm, set-set}
use Rattle.std.proofs.lemmas.Option.{none-some, same_Some, slice_get-map}
use Rattle.sc_record.specs.declared.slice.CoreId.{CoreId}
use Rattle.sc_record.specs.Names.{is_core}
use Rattle.sc_journal.specs.Seats.{exchanged}
use Rattle.sc_replicas.proofs.CoreLemmas.{same_name_by, is_core-Decides}
use Rattle.sc_bucket.proofs.PlaceLemmas.{slice_get-set, All-set_apart}

-- the element at another place
pub slice_get-set_other : {X : Type 0} (xs : List X) (i j : ℕ) (y : X) → i ≢ j → slice_get (set xs i y) j ≡ slice_get xs j
slice_get-set_other [] i j y other = refl
slice_get-set_other (x ∷ xs) zero zero y other = absurd (other refl)
slice_get-set_other (x ∷ xs) zero (suc j) y other = refl
slice_get-set_other (x ∷ xs) (suc i) zero y other = refl
slice_get-set_other (x ∷ xs) (suc i) (suc j) y other =
    slice_get-set_other xs i j y (λ same. other (ap suc same))

-- what holds of the elements that are written at two places, and of each at a third, holds of each
pub All-set_two : {X : Type 0} (P : X → Type 0) (xs : List X) (i j : ℕ) (y z : X) → i < length xs → P y → P z
    → ((k : ℕ) (x : X) → k ≢ i → k ≢ j → slice_get xs k ≡ Some x → P x) → All P (set (set xs i y) j z)
All-set_two {X} P xs i j y z within first second others =
    All-set_apart P (set xs i y) j z second (λ k x not_second there. by k x not_second there (cases_eq k i))
  where
    by : (k : ℕ) (x : X) → k ≢ j → slice_get (set xs i y) k ≡ Some x → (k ≡ i) ⊎ (k ≢ i) → P x
    by k x not_second there (inl same) =
        subst P (same_Some y x (sym (slice_get-set xs i y within) ∙ ap (slice_get (set xs i y)) (sym same) ∙ there)) first
    by k x not_second there (inr other) =
        others k x other not_second (sym (slice_get-set_other xs i k y (λ same. other (sym same))) ∙ there)

-- an element that is written over is of no matter
pub set-over : {X : Type 0} (xs : List X) (i j : ℕ) (x y z : X) → j ≢ i → set (set (set xs j x) i y) j z ≡ set (set xs i y) j z
set-over xs i j x y z other =
    ap (λ these. set these j z) (set_comm xs j i x y other) ∙ set-set (set xs i y) j x z

-- the element of a mapped list at a place is that of the element there
pub from_mapped : {A B : Type 0} (f : A → B) (xs : List A) (k : ℕ) (y : B) → slice_get (map f xs) k ≡ Some y
    → (x : A) × (slice_get xs k ≡ Some x) × (f x ≡ y)
from_mapped {A} {B} f xs k y there = by (slice_get xs k) refl (sym (slice_get-map f xs k) ∙ there) where
  by : (found : Option A) → slice_get xs k ≡ found → option_map f found ≡ Some y → (x : A) × (slice_get xs k ≡ Some x) × (f x ≡ y)
  by None is none = absurd (none-some y none)
  by (Some x) is same = (x, is, same_Some (f x) y same)

-- a filter of what another left keeps what passes both
pub filter-neither : {A : Type 0} (p q : A → Bool) (xs : List A)
    → filter (λ x. not (q x)) (filter (λ x. not (p x)) xs) ≡ filter (λ x. not (p x || q x)) xs
filter-neither p q [] = refl
filter-neither p q (x ∷ xs) = by (p x) (q x) refl (filter-neither p q xs) where
  by : (t u : Bool) → q x ≡ u → filter (λ x. not (q x)) (filter (λ x. not (p x)) xs) ≡ filter (λ x. not (p x || q x)) xs
      → filter (λ x. not (q x)) (cond (not t) (x ∷ filter (λ x. not (p x)) xs) (filter (λ x. not (p x)) xs))
      ≡ cond (not (t || u)) (x ∷ filter (λ x. not (p x || q x)) xs) (filter (λ x. not (p x || q x)) xs)
  by true u is rest = rest
  by false true is rest = rw is rest
  by false false is rest = rw is (ap (λ ys. x ∷ ys) rest)

-- ---- seats
-- names of one slice that are not those of one core differ in their replicas
pub apart_names : (one other : CoreId) → is_core one other ≡ false → one.slice.0 ≡ other.slice.0 → one.replica ≢ other.replica
apart_names one other apart slice replica =
    let both : true ≡ false =
    sym ((is_core-Decides one other).1 (same_name_by one other slice replica)) ∙ apart in
    absurd (cc)

-- the core that led sits in the seat of the one that leads
pub seat_of_led : (seat : ℕ) (core_in : ℕ → ℕ) → 2 ≤ seat → exchanged seat core_in seat ≡ core_in 1
seat_of_led seat core_in above =
    ap (λ b. cond b (core_in seat) (cond (eqb seat seat) (core_in 1) (core_in seat))) (ne_eqb seat 1 (λ same. omega (arith, same, above)))
    ∙ ap (λ b. cond b (core_in 1) (core_in seat)) (eq-eqb seat seat refl)

-- and each other where it sat
pub seat_of_other : (seat : ℕ) (core_in : ℕ → ℕ) (at : ℕ) → at ≢ 1 → at ≢ seat → exchanged seat core_in at ≡ core_in at
seat_of_other seat core_in at not_first other =
    ap (λ b. cond b (core_in seat) (cond (eqb at seat) (core_in 1) (core_in at))) (ne_eqb at 1 not_first)
    ∙ ap (λ b. cond b (core_in 1) (core_in at)) (ne_eqb at seat other)
