-- A journal as far as it was passed, and where one breaks.
use Rattle.std.specs.Prelude.{◌≡◌, ℕ, List, take, slice_get, Some}
use Rattle.sc_record.specs.declared.entry.Entry.{Entry}
use Rattle.sc_cluster.specs.declared.slice.Slice.{Slice}
use Rattle.sc_journal.specs.Legal.{MayFollow, IsLegal}

-- the map with which a journal begins, and its entries that were passed, the oldest first
pub record Passed : Type 0 where
  pub first : List Slice
  pub journal : List Entry

-- the entry at the place is the first that may not follow those before it
pub record BreaksAt (first : List Slice) (journal : List Entry) (place : ℕ) : Type 0 where
  pub legal : IsLegal first (take place journal)
  pub breaks : (one : Entry) × (slice_get journal place ≡ Some one) × ¬ MayFollow first (take place journal) one
