-- How a journal's entries are kept: a mark for each, and apart from them, in order, what the entries of a kind have besides; and
-- which of its writes are not committed.
use Rattle.std.specs.Prelude.{◌≡◌, ℕ, Bool, true, false, List, [], ◌∷◌, ◌++◌, ◌≤◌, length, map, filter, take, drop}
use Rattle.std.specs.Arc.{arc_value}
use Rattle.std.specs.declared.sync.Arc.{Arc}
use Rattle.std.specs.declared.alloc.Global.{Global}
use Rattle.std.specs.declared.vec.Vec.{Vec}
use Rattle.sc_record.specs.Writes.{Write}
use Rattle.sc_record.specs.declared.entry.Entry.{Entry}
use Rattle.sc_record.specs.declared.entry.Entry.TheVariants as entry
use Rattle.sc_journal.specs.Journal.{writes}
use Rattle.sc_journal.specs.Committed.{committed, last_commit}
use Rattle.sc_bucket.specs.declared.entries.Mark.{Mark}
use Rattle.sc_bucket.specs.declared.entries.Mark.TheVariants as mark
use Rattle.sc_bucket.specs.declared.entries.EntryRef.{EntryRef}
use Rattle.sc_bucket.specs.declared.entries.EntryRef.TheVariants as lent

-- the entries with these marks: at each mark whose entry has more besides, the next of its list. They end where a list has no next
abbrev pub entries_of : List Mark → List (Arc Write Global) → List ℕ → List Entry → List Entry
entries_of (mark.Write ∷ marks) (cell ∷ writes) settled others = entry.Write cell ∷ entries_of marks writes settled others
entries_of (mark.Settled ∷ marks) writes (place ∷ settled) others = entry.Settled place ∷ entries_of marks writes settled others
entries_of (mark.Committed ∷ marks) writes settled others = entry.Committed ∷ entries_of marks writes settled others
entries_of (mark.Other ∷ marks) writes settled (other ∷ others) = other ∷ entries_of marks writes settled others
entries_of _ _ _ _ = []

-- the mark of a write
abbrev pub is_write : Mark → Bool
is_write mark.Write = true
is_write _ = false

-- the mark of an entry that settles a write
abbrev pub is_settling : Mark → Bool
is_settling mark.Settled = true
is_settling _ = false

-- the mark of an entry of a split or of a core
abbrev pub is_other : Mark → Bool
is_other mark.Other = true
is_other _ = false

-- each list has as many as there are marks of its kind
pub record AreParts (marks : List Mark) (writes : List (Arc Write Global)) (settled : List ℕ) (others : List Entry) : Type 0 where
  pub each_write : length writes ≡ length (filter is_write marks)
  pub each_settling : length settled ≡ length (filter is_settling marks)
  pub each_other : length others ≡ length (filter is_other marks)

-- the entry that is lent
abbrev pub entry_of : EntryRef → Entry
entry_of (lent.Write cell) = entry.Write cell.now
entry_of (lent.Settled place) = entry.Settled place
entry_of lent.Committed = entry.Committed
entry_of (lent.Other other) = other.now

-- the writes after the last entry that commits, or all where none does
abbrev pub uncommitted : List Entry → List Write
uncommitted journal = writes (drop (last_commit journal) journal)

-- these are the cells of the journal's writes, and so many of them came before its last entry that commits
abbrev pub AreCounted : (journal : List Entry) (cells : List (Arc Write Global)) (count : ℕ) → Type 0
AreCounted journal cells count = (map arc_value cells ≡ writes journal) × (count ≡ length (writes (committed journal)))

-- the cells that were let go: each time so many of the first of those that were there
abbrev pub let_go_of : List (Vec (Arc Write Global) Global × ℕ) → List (Arc Write Global)
let_go_of [] = []
let_go_of ((there, count) ∷ later) = take count there.items ++ let_go_of later

-- So many writes of the journal were let go: those below the entry at `from`. The last entry that commits is at `commit`, and not before
-- that.
pub record AreGone (journal : List Entry) (count from commit : ℕ) : Type 0 where
  pub many : count ≡ length (writes (take from journal))
  pub last : commit ≡ last_commit journal
  pub before : from ≤ commit
