-- The rows of a key are those that were added with it.
use Rattle.std.proofs.Common.{◌≡◌, ℕ, ◌↔◌, zero, suc, Bool, true, false, cond, List, [], ◌∷◌, map, filter, Any, Contains, refl, ap, arith, ◌⊎◌, inl, inr, ⊎_elim}
use Rattle.std.proofs.lemmas.List.Kept.{Contains-dedup_nat, Contains-from_dedup}
use Rattle.std.specs.declared.cmp.Ordering.{Ordering}
use Rattle.std.specs.declared.cmp.Ordering.TheVariants.{Less, Equal, Greater}
use Rattle.std.specs.Ordering.{is_eq}
use Rattle.sc_segment.proofs.RowsLemmas.{same}
use Rattle.sc_segment.specs.Index.{rows_with, WasAddedWith}

pub Contains-cases : {X : Type 0} (x : X) (xs : List X) (row : X) → Contains (x ∷ xs) row → (x ≡ row) ⊎ Contains xs row
Contains-cases x xs row (zero, within, at) = inl at
Contains-cases x xs row (suc k, within, at) = inr (k, omega arith, at)

module _ {X : Type 0} (P : X → Type 0) where
  Any-head : (x : X) (xs : List X) → P x → Any P (x ∷ xs)
  Any-head x xs here = (0, x, omega arith, refl, here)

  Any-tail : (x : X) (xs : List X) → Any P xs → Any P (x ∷ xs)
  Any-tail x xs (k, y, within, at, there) = (suc k, y, omega arith, at, there)

  Any-cases : (x : X) (xs : List X) → Any P (x ∷ xs) → P x ⊎ Any P xs
  Any-cases x xs (zero, y, within, at, here) = inl (rw at here)
  Any-cases x xs (suc k, y, within, at, there) = inr (k, y, omega arith, at, there)

pub Equal-from_is_eq : (o : Ordering) → is_eq o ≡ true → o ≡ Equal
Equal-from_is_eq Less equal = cc
Equal-from_is_eq Equal equal = refl
Equal-from_is_eq Greater equal = cc

module _ {K : Type 0} (order : K → K → Ordering) (key : K) (row : ℕ) where
  abbrev has_key : ℕ × K → Bool
  has_key p = is_eq (order key p.1)

  abbrev row_of : ℕ × K → ℕ
  row_of p = p.0

  abbrev IsWanted : ℕ × K → Type 0
  IsWanted p = (p.0 ≡ row) × (order key p.1 ≡ Equal)

  added_from_kept : (added : List (ℕ × K)) → Contains (map row_of (filter has_key added)) row → Any IsWanted added
  added_from_kept [] (k, within, at) = absurd (omega arith)
  added_from_kept (p ∷ ps) kept =
      elim (has_key p) as (λ b. has_key p ≡ b → Contains (map row_of (cond b (p ∷ filter has_key ps) (filter has_key ps))) row → Any IsWanted (p ∷ ps)) [
        | true ↦ λ passes kept. ⊎_elim
            (λ here. Any-head IsWanted p ps (here, Equal-from_is_eq (order key p.1) passes))
            (λ later. Any-tail IsWanted p ps (added_from_kept ps later))
            (Contains-cases p.0 (map row_of (filter has_key ps)) row kept)
        | false ↦ λ _ kept. Any-tail IsWanted p ps (added_from_kept ps kept)
      ] refl kept

  kept_from_added : (added : List (ℕ × K)) → Any IsWanted added → Contains (map row_of (filter has_key added)) row
  kept_from_added [] (k, p, within, at, here) = absurd (omega arith)
  kept_from_added (p ∷ ps) there =
      elim (has_key p) as (λ b. has_key p ≡ b → Contains (map row_of (cond b (p ∷ filter has_key ps) (filter has_key ps))) row) [
        | true ↦ λ _. ⊎_elim
            (λ here. (0, omega arith, here.0))
            (λ later. let rest = kept_from_added ps later in (suc rest.0, omega arith, rest.2))
            (Any-cases IsWanted p ps there)
        | false ↦ λ fails. ⊎_elim
            (λ here. let passes : has_key p ≡ true = ap is_eq here.1 in cc)
            (λ later. kept_from_added ps later)
            (Any-cases IsWanted p ps there)
      ] refl

  -- a row is among the rows of a key exactly where it was added with a key that compares equal
  pub Contains-rows_with : (added : List (ℕ × K)) → Contains (rows_with order added key) row ↔ WasAddedWith order added key row
  Contains-rows_with added = (
    λ kept. added_from_kept added (Contains-from_dedup same (map row_of (filter has_key added)) row kept),
    λ there. Contains-dedup_nat (map row_of (filter has_key added)) row (kept_from_added added there),
  )
