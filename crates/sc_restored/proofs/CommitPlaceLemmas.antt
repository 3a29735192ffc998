-- The place of the last entry that commits, one entry on.
use Rattle.std.proofs.Common.{◌≡◌, ◌∙◌, ℕ, ◌+◌, ◌<◌, true, false, List, take, length, get_or, sym, ap, arith}
use Rattle.std.proofs.lemmas.List.{length-take}
use Rattle.sc_record.specs.declared.entry.Entry.{Entry}
use Rattle.sc_journal.specs.Committed.{commits, last_commit}
use Rattle.sc_journal.proofs.CommittedLemmas.{last_commit-push_commit, last_commit-push_other}
use Rattle.sc_restored.proofs.MarkLemmas.{taken_next}

-- the entry commits
pub commit_next : (journal : List Entry) (at : ℕ) (one : Entry) → at < length journal → one ≡ get_or journal at one → commits one ≡ true
    → at ≡ last_commit (take (at + 1) journal)
commit_next journal at one below is so =
    let long : length (take at journal) ≡ at = omega (arith, length-take at journal, below) in
    sym long ∙ sym (last_commit-push_commit (take at journal) one so) ∙ ap last_commit (sym (taken_next journal at one below is))

-- and it does not
pub other_next : (journal : List Entry) (at last : ℕ) (one : Entry) → at < length journal → one ≡ get_or journal at one
    → commits one ≡ false → last ≡ last_commit (take at journal) → last ≡ last_commit (take (at + 1) journal)
other_next journal at last one below is left so_far =
    so_far ∙ sym (last_commit-push_other (take at journal) one left) ∙ ap last_commit (sym (taken_next journal at one below is))
