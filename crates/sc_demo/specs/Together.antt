-- What several that worked beside each other made together: the writes, by document, and the entries of the board.
use Rattle.std.specs.Prelude.{◌≡◌, ℕ, Bool, true, false, List, [], ◌∷◌, filter, filter_map, slice_get, Option, Some, None}
use Rattle.std.specs.List.{AllZip, flat_map, list_any, range_with_len}
use Rattle.std.specs.Str.{bytes_eq}
use Rattle.sc_values.specs.declared.field.Field.{Field}
use Rattle.sc_record.specs.declared.order.Change.{Change}
use Rattle.sc_record.specs.declared.order.Change.TheVariants as changes
use Rattle.sc_record.specs.Writes.{Write}
use Rattle.sc_schema.specs.Documents.{OrderContent}
use Rattle.sc_lock.specs.Journal.{merged_places}
use Rattle.sc_journal.specs.Journal.{write_at}
use Rattle.sc_seen.specs.Seen.{Layout, Seen}
use Rattle.sc_seen.specs.declared.board.BoardEntry.{BoardEntry}
use Rattle.sc_seen.specs.declared.board.BoardEntry.TheVariants as board
use Rattle.sc_arguments.specs.declared.asked.Demo.{Demo}
use Rattle.sc_workload.specs.Workload.{Workload, all_orders}
use Rattle.sc_workload.specs.Laws.{on_document}

-- the places of the entries at a lock that are one of several's own, in order
abbrev pub own_of_all : List Seen → (lock : ℕ) → List ℕ
own_of_all [] lock = []
own_of_all (part ∷ parts) lock = merged_places (own_of_all parts lock) (part.own lock)

-- ---- writes
-- the writes among one's own entries of a bucket, in order
abbrev pub own_writes : Seen → (lock : ℕ) → List Write
own_writes seen lock = filter_map (write_at (seen.journals lock)) (seen.own lock)

-- those of all buckets
abbrev pub all_own_writes : Layout → Seen → List Write
all_own_writes layout seen = flat_map (own_writes seen) (range_with_len 0 layout.buckets)

-- of writes, those of the document of an id
abbrev pub writes_on : (id : List ℕ) → List Write → List Write
writes_on id writes = filter (λ (write : Write). bytes_eq write.id id) writes

-- what a whole document or a deletion leaves of its document
abbrev pub left_by : Change → Option (List Field)
left_by (changes.Whole doc) = Some doc
left_by (changes.Parts parts) = None
left_by changes.Delete = None

-- the write is that of the order: it is of its document, and leaves of it what the order asks for
pub record IsWriteOfOrder (write : Write) (order : OrderContent) : Type 0 where
  pub id : write.id ≡ order.id
  pub document : write.doc ≡ left_by order.change

-- the workload that is asked for
abbrev pub workload_of : Demo → Workload
workload_of demo = record { seed = demo.seed; count = demo.count }

-- of each document one's own writes are, in order, those of all orders of the workload that are on it
abbrev pub OrdersAreWritten : Demo → Layout → Seen → Type 0
OrdersAreWritten demo layout seen =
    (id : List ℕ) → AllZip IsWriteOfOrder (writes_on id (all_own_writes layout seen)) (on_document id (all_orders (workload_of demo)))

-- ---- the board
-- one's own entries of the board, in order
abbrev pub own_notes : Layout → Seen → List BoardEntry
own_notes layout seen = filter_map (slice_get seen.board) (seen.own layout.buckets)

-- the entry says that a split is done
abbrev pub is_done_entry : BoardEntry → Bool
is_done_entry (board.Done slice) = true
is_done_entry _ = false

-- one of one's own entries of the board says that a split is done
abbrev pub OwnsDone : Layout → Seen → Type 0
OwnsDone layout seen = list_any is_done_entry (own_notes layout seen) ≡ true
