-- What one entry more does to what of a journal can be found.
use Rattle.std.proofs.Common.{◌≡◌, ℕ, ◌+◌, ◌≤◌, Bool, true, false, List, [], ◌∷◌, ◌++◌, length, take, drop, refl, ap, ◌∙◌, arith, zero-add}
use Rattle.std.specs.Prelude.{fold, if◌then◌else◌}
use Rattle.std.specs.List.{enumerate_from}
use Rattle.std.proofs.lemmas.List.{take_at, take-append-le, take-append-drop}
use Rattle.std.proofs.lemmas.List.Sums.{fold-append}
use mathlib.Core.List.{IsPrefix}
use Rattle.sc_record.specs.declared.entry.Entry.{Entry}
use Rattle.sc_journal.specs.Committed.{commits, commit_after, last_commit, committed}
use Rattle.sc_journal.proofs.ListLemmas.{enumerate_from-append}

-- the last entry is looked at last
last_commit-push : (journal : List Entry) (one : Entry)
    → last_commit (journal ++ one ∷ []) ≡ (if commits one then length journal else last_commit journal)
last_commit-push journal one =
    ap (fold commit_after 0) (enumerate_from-append 0 journal (one ∷ []))
    ∙ fold-append commit_after 0 (enumerate_from 0 journal) (enumerate_from (0 + length journal) (one ∷ []))
    ∙ ap (λ n. if commits one then n else last_commit journal) (zero-add (length journal))

-- an entry that does not commit leaves the place of the last that does
pub last_commit-push_other : (journal : List Entry) (one : Entry) → commits one ≡ false
    → last_commit (journal ++ one ∷ []) ≡ last_commit journal
last_commit-push_other journal one none =
    last_commit-push journal one ∙ ap (λ b. if b then length journal else last_commit journal) none

-- one that commits is the last that does
pub last_commit-push_commit : (journal : List Entry) (one : Entry) → commits one ≡ true
    → last_commit (journal ++ one ∷ []) ≡ length journal
last_commit-push_commit journal one is =
    last_commit-push journal one ∙ ap (λ b. if b then length journal else last_commit journal) is

-- the places counted from any place on are within those of the list, or the place before stays
fold-within : (journal : List Entry) (start before bound : ℕ) → before ≤ bound → start + length journal ≤ bound
    → fold commit_after before (enumerate_from start journal) ≤ bound
fold-within [] start before bound low high = low
fold-within (one ∷ journal) start before bound low high =
    fold-within journal (start + 1) (if commits one then start else before) bound (by (commits one)) (omega arith)
  where
    by : (b : Bool) → (if b then start else before) ≤ bound
    by true = omega arith
    by false = low

-- the last entry that commits is within the journal
pub last_commit-within : (journal : List Entry) → last_commit journal ≤ length journal
last_commit-within journal = fold-within journal 0 0 (length journal) (omega arith) (omega arith)

-- an entry that does not commit changes nothing of what was committed
pub committed-push_other : (journal : List Entry) (one : Entry) → commits one ≡ false
    → committed (journal ++ one ∷ []) ≡ committed journal
committed-push_other journal one none =
    ap (λ n. take n (journal ++ one ∷ [])) (last_commit-push_other journal one none)
    ∙ take-append-le (last_commit journal) journal (one ∷ []) (last_commit-within journal)

-- one that commits, commits all that was written before it
pub committed-push_commit : (journal : List Entry) (one : Entry) → commits one ≡ true
    → committed (journal ++ one ∷ []) ≡ journal
committed-push_commit journal one is =
    ap (λ n. take n (journal ++ one ∷ [])) (last_commit-push_commit journal one is)
    ∙ take_at journal (one ∷ []) (length journal) refl

-- what was committed begins the journal
pub committed-prefix : (journal : List Entry) → IsPrefix (committed journal) journal
committed-prefix journal = (drop (last_commit journal) journal, take-append-drop (last_commit journal) journal)
