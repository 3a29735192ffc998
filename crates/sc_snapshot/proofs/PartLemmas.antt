-- The rows that pass a test: they are rows, and each comes after those before it that pass.
use Rattle.std.proofs.Common.{◌≡◌, ℕ, zero, suc, ◌+◌, ◌≤◌, Bool, true, false, cond, List, [], ◌∷◌, ◌++◌, filter, take, length, slice_get, Some, ap, ◌∙◌, arith}
use Rattle.std.proofs.lemmas.List.Elements.{filter-append}
use Rattle.std.specs.List.{AllByRecursion}
use Rattle.std.specs.declared.cmp.Ordering.TheVariants.{Less}
use Rattle.sc_record.specs.Writes.{Write}
use Rattle.sc_snapshot.specs.Edits.{AreAbove}
use Rattle.sc_snapshot.specs.Rows.{AreRows}
use Rattle.sc_snapshot.proofs.ChangeLemmas.{take-next}
use Rattle.sc_snapshot.proofs.PlaceLemmas.{order, Ascend, ascend-from, ascend-to}

module _ (p : Write → Bool) where
  pub fewer : (rows : List Write) → length (filter p rows) ≤ length rows
  fewer [] = omega arith
  fewer (row ∷ rows) =
      let rest = fewer rows in
      elim (p row) as (λ b. length (cond b (row ∷ filter p rows) (filter p rows)) ≤ length (row ∷ rows)) [
        | true ↦ omega (arith, rest)
        | false ↦ omega (arith, rest)
      ]

  -- what holds of each row holds of those that pass
  pub each-passing : (P : Write → Type 0) (rows : List Write) → AllByRecursion P rows → AllByRecursion P (filter p rows)
  each-passing P [] all = tt
  each-passing P (row ∷ rows) all =
      let rest = each-passing P rows all.1 in
      elim (p row) as (λ b. AllByRecursion P (cond b (row ∷ filter p rows) (filter p rows))) [ true ↦ (all.0, rest) | false ↦ rest ]

  ascend-passing : (rows : List Write) → Ascend rows → Ascend (filter p rows)
  ascend-passing [] ascend = tt
  ascend-passing (row ∷ rows) ascend =
      let rest = ascend-passing rows ascend.1 in
      let above : AreAbove row.id (filter p rows) = each-passing (λ (other : Write). order row.id other.id ≡ Less) rows ascend.0 in
      elim (p row) as (λ b. Ascend (cond b (row ∷ filter p rows) (filter p rows))) [ true ↦ (above, rest) | false ↦ rest ]

  -- those of rows that pass are rows
  pub rows-passing : (rows : List Write) → AreRows rows → AreRows (filter p rows)
  rows-passing rows are = record {
    ascend = ascend-to (filter p rows) (ascend-passing rows (ascend-from rows are.ascend));
    bounded = let few = fewer rows in let all = are.bounded in omega (arith, few, all);
  }

  -- the first rows that pass, and the next where it does
  pub passing-more : (rows : List Write) (at : ℕ) (row : Write) → slice_get rows at ≡ Some row
      → filter p (take (at + 1) rows) ≡ filter p (take at rows) ++ filter p (row ∷ [])
  passing-more rows at row is = ap (filter p) (take-next rows at row is) ∙ filter-append p (take at rows) (row ∷ [])

  -- a row that passes comes after the first that do
  pub passing-at : (rows : List Write) (at : ℕ) (row : Write) → slice_get rows at ≡ Some row → p row ≡ true
      → slice_get (filter p rows) (length (filter p (take at rows))) ≡ Some row
  passing-at [] at row is passes = cc
  passing-at (first ∷ rows) zero row is passes =
      let same : first ≡ row = cc in
      let here : p first ≡ true = ap p same ∙ passes in
      rw here (ap (λ (w : Write). Some w) same)
  passing-at (first ∷ rows) (suc at) row is passes =
      let rest = passing-at rows at row is passes in
      elim (p first) as (λ b. slice_get (cond b (first ∷ filter p rows) (filter p rows))
      (length (cond b (first ∷ filter p (take at rows)) (filter p (take at rows)))) ≡ Some row) [ true ↦ rest | false ↦ rest ]
