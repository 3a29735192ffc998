-- How long the journal of a bucket may be.
use Rattle.std.specs.Prelude.{ℕ}

-- the least limit of a journal, beside an entry that is owed for each follower
abbrev pub least_journal : ℕ
least_journal = 16

-- the greatest limit of a journal
abbrev pub greatest_journal : ℕ
greatest_journal = 16777216
