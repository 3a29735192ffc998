-- The parts of a bucket as contracts see them.
use Rattle.std.specs.Prelude.{ℕ, List, Option}
use Rattle.sc_hash.specs.declared.range.Range.{Range}
use Rattle.sc_record.specs.declared.entry.Entry.{Entry}
use Rattle.sc_record.specs.declared.slice.CoreId.{CoreId}
use Rattle.sc_record.specs.Writes.{Write}

-- a journal: its entries, the oldest first, those too whose writes it let go; how many more it has room for; and how many of the first
-- of them a log file has, or None where no file is asked before writes are let go
pub record JournalState : Type 0 where
  pub entries : List Entry
  pub room : ℕ
  pub filed : Option ℕ

-- the lists of a journal: the entries that are kept in them, how many more they have room for, and below which entry writes were let go
pub record ListsState : Type 0 where
  pub entries : List Entry
  pub room : ℕ
  pub gone : ℕ

-- places in a journal, ascending, and how many more there is room for
pub record PlacesState : Type 0 where
  pub places : List ℕ
  pub room : ℕ

-- a message in flight: a write, by its place in the journal, and the core that it is sent to
pub record Sent : Type 0 where
  pub place : ℕ
  pub core : CoreId
  pub write : Write

-- the messages in flight, in the order of sending, and how many more there is room for
pub record FlightState : Type 0 where
  pub messages : List Sent
  pub room : ℕ

-- a feed: the core that it feeds and that core's range; the snapshot that it feeds from, by how many entries the journal had and its
-- rows; and the next row to look at
pub record FeedState : Type 0 where
  pub core : CoreId
  pub range : Range
  pub place : ℕ
  pub rows : List Write
  pub next : ℕ
