-- The place of the split that runs in a board's journal.
use Rattle.std.proofs.Common.{◌≡◌, ◌<◌, ◌≤◌, ◌⊎◌, inl, inr, ℕ, ◌+◌, List, [], ◌∷◌, length, Option, Some, None, arith}
use Rattle.std.specs.Prelude.{take, zero, suc}
use Rattle.std.specs.List.{fold, enumerate_from}
use Rattle.sc_seen.specs.declared.board.BoardEntry.{BoardEntry}
use Rattle.sc_seen.specs.declared.board.BoardEntry.TheVariants as board
use Rattle.sc_seen.specs.Board.{running_after, running_split}

-- the split that runs after these entries, of which the first stands at this place
abbrev running_from : Option ℕ → ℕ → List BoardEntry → Option ℕ
running_from before start entries = fold running_after before (enumerate_from start entries)

-- the split that runs after an entry began by it, or ran before it
one_more : (before : Option ℕ) (start place : ℕ) (one : BoardEntry) → running_after before (start, one) ≡ Some place
    → (before ≡ Some place) ⊎ (place ≡ start)
one_more before start place (board.Begun plan) at = inr (let same : Some start ≡ Some place = at in cc)
one_more before start place (board.Recovering parent) at = inl at
one_more before start place (board.Done parent) at = let none : None ≡ Some place = at in absurd (cc)
one_more before start place (board.Failed parent) at = let none : None ≡ Some place = at in absurd (cc)
one_more before start place (board.Dropped slice) at = inl at
one_more before start place (board.Led slice replica) at = inl at

-- the split that runs after some entries began by one of them, or ran before them
began : (before : Option ℕ) (start place : ℕ) (entries : List BoardEntry) → running_from before start entries ≡ Some place
    → (before ≡ Some place) ⊎ ((start ≤ place) × (place < start + length entries))
began before start place [] at = inl at
began before start place (one ∷ entries) at = by (began (running_after before (start, one)) (start + 1) place entries at) where
  by : (running_after before (start, one) ≡ Some place) ⊎ ((start + 1 ≤ place) × (place < start + 1 + length entries))
      → (before ≡ Some place) ⊎ ((start ≤ place) × (place < start + length (one ∷ entries)))
  by (inr (from, to)) = inr (omega arith, omega arith)
  by (inl earlier) = then (one_more before start place one earlier) where
    then : (before ≡ Some place) ⊎ (place ≡ start) → (before ≡ Some place) ⊎ ((start ≤ place) × (place < start + length (one ∷ entries)))
    then (inl ran) = inl ran
    then (inr here) = inr (omega arith, omega arith)

-- the entries that come after those up to it leave it
stays_from : (before : Option ℕ) (start place more : ℕ) (entries : List BoardEntry) → running_from before start entries ≡ Some place
    → place < start + more → running_from before start (take more entries) ≡ Some place
stays_from before start place zero entries at within = by (began before start place entries at) where
  by : (before ≡ Some place) ⊎ ((start ≤ place) × (place < start + length entries)) → before ≡ Some place
  by (inl ran) = ran
  by (inr (from, to)) = absurd (omega arith)
stays_from before start place (suc more) [] at within = at
stays_from before start place (suc more) (one ∷ entries) at within =
    stays_from (running_after before (start, one)) (start + 1) place more entries at (omega arith)

-- the entry that began it is one of the journal
pub running-inside : (journal : List BoardEntry) (place : ℕ) → running_split journal ≡ Some place → place < length journal
running-inside journal place at = by (began None 0 place journal at) where
  by : (None ≡ Some place) ⊎ ((0 ≤ place) × (place < 0 + length journal)) → place < length journal
  by (inl none) = absurd (cc)
  by (inr (from, to)) = omega arith

-- and each beginning of the journal that has that entry has it as the one that runs
pub running-stays : (journal : List BoardEntry) (place more : ℕ) → running_split journal ≡ Some place → place < more
    → running_split (take more journal) ≡ Some place
running-stays journal place more at within = stays_from None 0 place more journal at (omega arith)
