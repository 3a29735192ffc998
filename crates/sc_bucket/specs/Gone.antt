-- Which writes of a journal were let go: those that are committed, and, where a log file is asked, that the file has.
use Rattle.std.specs.Prelude.{ℕ, ◌-◌, List, length, take, drop, Option, Some, None, min}
use Rattle.sc_record.specs.Writes.{Write}
use Rattle.sc_record.specs.declared.entry.Entry.{Entry}
use Rattle.sc_journal.specs.Journal.{writes}
use Rattle.sc_journal.specs.Committed.{last_commit}
use Rattle.sc_bucket.specs.Kept.{JournalState}

-- below which entry writes may go, by how many entries a file has, or None where none is asked, and the place of the last entry that
-- commits
abbrev pub may_go : Option ℕ → ℕ → ℕ
may_go None commit = commit
may_go (Some filed) commit = min filed commit

-- the writes before the entry at this place were let go, and those after it are there
abbrev pub gone : JournalState → ℕ
gone journal = may_go journal.filed (last_commit journal.entries)

-- those of the last n entries' writes that were let go, where all before the entry at `from` were
abbrev pub went_of : ℕ → ℕ → List Entry → List Write
went_of n from entries = writes (drop (length entries - n) (take from entries))
