-- What of a journal a search can find.
use Rattle.std.specs.Prelude.{◌≡◌, ℕ, Bool, true, false, List, fold, take, if◌then◌else◌, Some, IsSome}
use Rattle.std.specs.List.{enumerate_from}
use Rattle.sc_record.specs.Writes.{Write}
use Rattle.sc_record.specs.declared.entry.Entry.{Entry}
use Rattle.sc_record.specs.declared.entry.Entry.TheVariants as entry
use Rattle.sc_cluster.specs.declared.slice.Slice.{Slice}
use Rattle.sc_journal.specs.Journal.{last_write}
use Rattle.sc_journal.specs.Splits.{HasRoomFor}

-- the entry commits: all that was written before it can be found
abbrev pub commits : Entry → Bool
commits entry.Committed = true
commits (entry.Begun parent subs) = true
commits _ = false

-- the place of the last entry that commits, once this entry at its place was looked at; the other is that before it
abbrev pub commit_after : ℕ → ℕ × Entry → ℕ
commit_after before (place, one) = if commits one then place else before

-- the place of the last entry that commits; 0 where none does
abbrev pub last_commit : List Entry → ℕ
last_commit journal = fold commit_after 0 (enumerate_from 0 journal)

-- the journal up to its last entry that commits
abbrev pub committed : List Entry → List Entry
committed journal = take (last_commit journal) journal

-- the write can be found: it is the last of its id that was committed, and no deletion
pub record IsShown (journal : List Entry) (write : Write) : Type 0 where
  pub last : last_write (committed journal) write.id ≡ Some write
  pub live : IsSome write.doc

-- the journal has room for an entry that commits, beside those that it owes
abbrev pub HasRoomToCommit : ℕ → List Slice → List Entry → Type 0
HasRoomToCommit limit first journal = HasRoomFor 1 limit first journal
