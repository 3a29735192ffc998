-- The numbers of the rows that pass a test: of one row more, and that they are the live rows.
use Rattle.std.proofs.Common.{◌≡◌, ℕ, zero, suc, ◌+◌, ◌<◌, ◌≤◌, ◌==◌, Bool, true, false, cond, ◌||◌, List, [], ◌∷◌, ◌++◌, map, filter, length, slice_get, refl, sym, ap, ◌∙◌, arith, ◌⊎◌, ⊎_elim, inl, inr}
use Rattle.std.proofs.lemmas.Bool.{cases_lt}
use Rattle.std.proofs.lemmas.Bool.Decides.{nat_tests}
use Rattle.std.proofs.lemmas.List.Folds.{list_any-append}
use Rattle.std.proofs.lemmas.List.FromFn.{filter_of_map_range_with_len_more}
use Rattle.std.proofs.lemmas.List.Kept.{IsStrictlyIncreasing-filter}
use Rattle.std.proofs.lemmas.Option.{slice_get_past}
use Rattle.std.specs.List.{range_with_len}
use Rattle.sc_record.specs.Writes.{Write}
use Rattle.sc_rows.proofs.JoinLemmas.{AscendFrom, increasing_from_ascend}
use Rattle.sc_rows.specs.Joining.{has_row}
use Rattle.sc_snapshot.specs.Postings.{is_live_at, AreLiveRows}

-- the numbers below n that pass
abbrev pub passing : (ℕ → Bool) → ℕ → List ℕ
passing test n = filter test (map (λ k. k) (range_with_len 0 n))

ascends : (a n : ℕ) → AscendFrom a (map (λ k. k) (range_with_len a n))
ascends a zero = tt
ascends a (suc n) = (omega arith, ascends (a + 1) n)

apart : (x y : ℕ) → x < y → (x == y) ≡ false
apart x y h = grind (arith, nat_tests)

itself : (x y : ℕ) → x ≡ y → (x == y) ≡ true
itself x y h = grind (arith, nat_tests)

or-false : (b : Bool) → (b || false) ≡ b
or-false true = refl
or-false false = refl

module _ (test : ℕ → Bool) where
  -- the next number comes last, where it passes
  pub passing-next : (n : ℕ) → passing test (n + 1) ≡ passing test n ++ cond (test n) (n ∷ []) []
  passing-next n = filter_of_map_range_with_len_more test (λ k. k) 0 n n (omega arith)

  has_row-next : (n k : ℕ) → has_row (passing test (suc n)) k ≡ (has_row (passing test n) k || has_row (cond (test n) (n ∷ []) []) k)
  has_row-next n k =
      let more : suc n ≡ n + 1 = omega arith in
      ap (λ m. has_row (passing test m) k) more ∙ ap (λ (ns : List ℕ). has_row ns k) (passing-next n)
      ∙ list_any-append (λ r. r == k) (passing test n) (cond (test n) (n ∷ []) [])

  none_past : (n k : ℕ) → n ≤ k → has_row (passing test n) k ≡ false
  none_past zero k past = refl
  none_past (suc n) k past =
      has_row-next n k
      ∙ rw (none_past n k (omega (arith, past)))
      (elim (test n) as (λ b. has_row (cond b (n ∷ []) []) k ≡ false) [
        | true ↦ rw (apart n k (omega (arith, past))) refl
        | false ↦ refl
      ])

  passes_below : (n k : ℕ) → k < n → has_row (passing test n) k ≡ test k
  passes_below zero k below = absurd (omega (arith, below))
  passes_below (suc n) k below =
      ⊎_elim
      (λ before. has_row-next n k
      ∙ rw (passes_below n k before)
      (elim (test n) as (λ b. (test k || has_row (cond b (n ∷ []) []) k) ≡ test k) [
        | true ↦ rw (apart-above before) (or-false (test k))
        | false ↦ or-false (test k)
      ]))
      (λ past. let here : n ≡ k = omega (arith, past, below) in
      has_row-next n k
      ∙ rw (none_past n k past)
      (elim (test n) as (λ b. test n ≡ b → has_row (cond b (n ∷ []) []) k ≡ test k) [
        | true ↦ λ passes. rw (itself n k here) (sym passes ∙ ap test here)
        | false ↦ λ fails. sym fails ∙ ap test here
      ] refl))
      (cases_lt k n)
    where
      apart-above : k < n → (n == k) ≡ false
      apart-above before = grind (arith, nat_tests)

-- the rows whose numbers pass are the live ones
pub passing-live : (rows : List Write) (n : ℕ) → n ≡ length rows → AreLiveRows rows (passing (λ k. is_live_at (slice_get rows k)) n)
passing-live rows n all = record {
  members = λ number. by_place number (cases_lt number n);
  ascending = IsStrictlyIncreasing-filter (λ k. is_live_at (slice_get rows k)) (map (λ k. k) (range_with_len 0 n))
      (increasing_from_ascend 0 (map (λ k. k) (range_with_len 0 n)) (ascends 0 n));
}
  where
    by_place : (number : ℕ) → (number < n) ⊎ (n ≤ number)
        → has_row (passing (λ k. is_live_at (slice_get rows k)) n) number ≡ is_live_at (slice_get rows number)
    by_place number (inl within) = passes_below (λ k. is_live_at (slice_get rows k)) n number within
    by_place number (inr past) =
        none_past (λ k. is_live_at (slice_get rows k)) n number past
        ∙ ap is_live_at (sym (slice_get_past rows number (omega (arith, past, all))))
