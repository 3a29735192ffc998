-- The journal of a board as contracts see it.
use Rattle.std.specs.Prelude.{ℕ, List}
use Rattle.sc_seen.specs.declared.board.BoardEntry.{BoardEntry}

-- a journal: its entries, the oldest first, and how many more it has room for
pub record BoardJournalState : Type 0 where
  pub entries : List BoardEntry
  pub room : ℕ
