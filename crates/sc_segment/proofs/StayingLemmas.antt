-- Keys that are told to stay, but for those that are found among the lost.
use Rattle.std.proofs.Common.{◌≡◌, ◌≢◌, ℕ, zero, suc, ◌+◌, ◌<◌, ◌≤◌, Bool, true, false, List, [], ◌∷◌, set, slice_get, Some, refl, sym, ap, ◌∙◌, arith, ⊎_elim}
use Rattle.std.proofs.lemmas.Bool.{cases_eq, cases_lt}
use Rattle.std.proofs.lemmas.Cmp.{alike_right}
use Rattle.std.specs.Cmp.{IsTotalOrder}
use Rattle.std.specs.declared.cmp.Ordering.{Ordering}
use Rattle.std.specs.declared.cmp.Ordering.TheVariants.{Less, Equal, Greater}
use Rattle.std.specs.List.Sorted.{IsStrictlySortedBy}
use Rattle.std.specs.Map.{keys_of}
use Rattle.std.specs.Ordering.{is_eq, ordering_reverse}
use Rattle.sc_keys.proofs.SearchLemmas.{in_order, greater_up_to}
use Rattle.sc_segment.specs.Index.{rows_at}

-- a key that is told to stay was told so before another one was not
pub still-set : (stays : List Bool) (at i : ℕ) → slice_get (set stays at false) i ≡ Some true → slice_get stays i ≡ Some true
still-set [] at i is = is
still-set (s ∷ ss) zero zero is = cc
still-set (s ∷ ss) zero (suc i) is = is
still-set (s ∷ ss) (suc at) zero is = is
still-set (s ∷ ss) (suc at) (suc i) is = still-set ss at i is

-- and it is another one
other-set : (stays : List Bool) (at : ℕ) → slice_get (set stays at false) at ≡ Some true → ⊥
other-set [] at is = cc
other-set (s ∷ ss) zero is = cc
other-set (s ∷ ss) (suc at) is = other-set ss at is

module _ {K : Type 0} {R : K → K → Ordering} (o : IsTotalOrder R) where
  -- keys that don't compare equal, the other way round
  pub apart-back : (x y : K) → is_eq (R x y) ≡ false → is_eq (R y x) ≡ false
  apart-back x y apart = by_answer (R x y) refl
    where
      by_answer : (answer : Ordering) → R x y ≡ answer → is_eq (R y x) ≡ false
      by_answer Less is = ap is_eq (o.antisymm y x ∙ ap ordering_reverse is)
      by_answer Equal is = absurd (let equal = ap is_eq is in cc)
      by_answer Greater is = ap is_eq (o.antisymm y x ∙ ap ordering_reverse is)

  -- a key has no rows where none compares equal
  pub rows_at-none : (key : K) (es : List (K × List ℕ)) → ((j : ℕ) (m : K) → slice_get (keys_of es) j ≡ Some m → is_eq (R key m) ≡ false) → rows_at R es key ≡ []
  rows_at-none key [] apart = refl
  rows_at-none key (e ∷ es) apart = rw (apart 0 e.0 refl) (rows_at-none key es (λ j m at. apart (suc j) m at))

  -- ---- a key that stands at a place
  module _ (key : K) (ks : List K) (at : ℕ) (found : K) (sorted : IsStrictlySortedBy R ks) (found_at : slice_get ks at ≡ Some found) (equal : R key found ≡ Equal) where
    -- a later one is above all up to there
    pub passed-found : (i : ℕ) (k later : K) → i < at + 1 → slice_get ks i ≡ Some k → R key later ≡ Less → R later k ≡ Greater
    passed-found i k later before here less =
        greater_up_to o later ks at found sorted found_at (sym (alike_right o key found later equal) ∙ o.antisymm later key ∙ ap ordering_reverse less) i k before here

    -- those at other places don't compare equal
    apart-other : (i : ℕ) (k : K) → i ≢ at → slice_get ks i ≡ Some k → is_eq (R key k) ≡ false
    apart-other i k other here = ⊎_elim
        (λ (before : i < at). ap is_eq (o.antisymm key k ∙ ap ordering_reverse (alike_right o key found k equal ∙ in_order o ks i at k found sorted before here found_at)))
        (λ (from : at ≤ i). let after : at < i = omega arith in
        ap is_eq (o.congr key found k equal ∙ in_order o ks at i found k sorted after found_at here))
        (cases_lt i at)

    pub apart-found : (stays : List Bool) (i : ℕ) (k : K) → slice_get ks i ≡ Some k → slice_get (set stays at false) i ≡ Some true → is_eq (R key k) ≡ false
    apart-found stays i k here stay = ⊎_elim
        (λ (same : i ≡ at). absurd (other-set stays at (ap (slice_get (set stays at false)) (sym same) ∙ stay)))
        (λ other. apart-other i k other here)
        (cases_eq i at)
