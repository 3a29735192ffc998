-- What a desk for one thread keeps, what is seen of it, and what is true of it.
use Rattle.std.specs.Prelude.{◌≡◌, ◌⊎◌, ◌≤◌, ℕ, Bool, All, ◌==◌, not, if◌then◌else◌, List, [], ◌∷◌, length, map, filter, drop, set, slice_get, Option, Some, None}
use Rattle.std.specs.List.{enumerate_from, range_with_len}
use Rattle.sc_record.specs.declared.entry.Entry.{Entry}
use Rattle.sc_router.specs.Route.{IsBucketCount}
use Rattle.sc_cluster.specs.declared.slice.Slice.{Slice}
use Rattle.sc_seen.specs.declared.board.BoardEntry.{BoardEntry}
use Rattle.sc_seen.specs.Board.{IsLegalBoard}
use Rattle.sc_seen.specs.Seen.{opened_at, Opened, Layout, Seen}
use Rattle.sc_bucket.specs.declared.bucket.Bucket.{Bucket}
use Rattle.sc_bucket.specs.declared.phase.Phase.TheVariants as phases
use Rattle.sc_bucket.specs.Sound.{IsSound}
use Rattle.sc_replicas.specs.Cores.{IsNewCore}
use Rattle.sc_keeper.specs.declared.part.Part.{Part}
use Rattle.sc_keeper.specs.Part.{part_of, is_of_keeper, keeper_entries}
use Rattle.sc_board.specs.declared.board.Board.{Board}
use Rattle.sc_board.specs.Boards.{IsSoundBoard}
use Rattle.sc_collection.specs.Desks.{Held, Keeping, IsBucketOf, IsBoardOf, AreAtRest}

-- A desk: how it is laid out; a slot for each bucket by its number, which is empty while the bucket is out, and the bucket that is out,
-- as it was when it was handed out; the board unless it is out, and the entries of the board that is out, as they were then.
pub record AloneState : Type 0 where
  pub layout : Layout
  pub slots : List (Option Bucket)
  pub out : Option Held
  pub board : Option (Board (Unit {0}))
  pub board_out : Option (List BoardEntry)

-- how a desk is laid out, by its slots, its number of nodes, the map with which each bucket began, its limit, and what was opened
abbrev pub layout_alone : List (Option Bucket) → ℕ → List Slice → ℕ → Opened → Layout
layout_alone slots nodes first limit opened =
    record { buckets = length slots; nodes = nodes; first = first; limit = limit; opened = opened }

-- the bucket that is out, by a history that has nothing else
abbrev pub out_alone : List ((ℕ × Bool) × Bucket) → Option Held
out_alone [] = None
out_alone (one ∷ items) = Some (record { number = one.0.0; bucket = one.1; by_keeper = one.0.1 })

-- the entries of the board that is out, by a history that has nothing else
abbrev pub board_out_of : List (Unit {0} × Board (Unit {0})) → Option (List BoardEntry)
board_out_of [] = None
board_out_of (one ∷ items) = Some (one.1).journal.entries

-- a desk of these parts
abbrev pub desk_of : Layout → List (Option Bucket) → Option Held → Option (Board (Unit {0})) → Option (List BoardEntry) → AloneState
desk_of layout slots out board board_out = record { layout = layout; slots = slots; out = out; board = board; board_out = board_out }

-- the bucket in a slot, or that which is out where the slot is empty
abbrev pub bucket_in : Option Held → Option (Option Bucket) → Option Bucket
bucket_in out None = None
bucket_in out (Some (Some bucket)) = Some bucket
bucket_in None (Some None) = None
bucket_in (Some held) (Some None) = Some held.bucket

-- the bucket of this number, in its slot or out
abbrev pub bucket_at : AloneState → ℕ → Option Bucket
bucket_at desk number = bucket_in desk.out (slice_get desk.slots number)

-- a bucket's journal; none is empty
abbrev pub journal_in : Option Bucket → List Entry
journal_in None = []
journal_in (Some bucket) = bucket.journal.entries

-- a bucket's part; that of none has nothing
abbrev pub part_of_slot : Option Bucket → Part
part_of_slot None = record { map = []; phase = phases.Idle; cores = []; feeds = []; entries = [] }
part_of_slot (Some bucket) = part_of bucket

-- the entries of the board, or of that which is out where there is none
abbrev pub entries_in : Option (Board (Unit {0})) → Option (List BoardEntry) → List BoardEntry
entries_in (Some board) out = board.journal.entries
entries_in None None = []
entries_in None (Some entries) = entries

-- the journal of the bucket of this number, in its slot or out
abbrev pub journal_of : AloneState → ℕ → List Entry
journal_of desk number = journal_in (bucket_at desk number)

-- the board's entries, of the board as it is or as it was when it was handed out
abbrev pub entries_alone : AloneState → List BoardEntry
entries_alone desk = entries_in desk.board desk.board_out

-- the places of entries, from this one on
abbrev pub places : {A : Type 0} → ℕ → List A → List ℕ
places from entries = range_with_len from (length (drop from entries))

-- the places, from this one on, of a journal's entries that a bucket's keeper alone does not make
abbrev pub pass_places : ℕ → List Entry → List ℕ
pass_places from journal =
    map (λ (one : ℕ × Entry). one.0) (filter (λ (one : ℕ × Entry). not (is_of_keeper one.1)) (enumerate_from from (drop from journal)))

-- What is seen of a desk for one thread: all that happened. All entries are one's own but those of the keepers and those that were there
-- when the collection was opened.
abbrev pub seen_alone : AloneState → Seen
seen_alone desk = record {
  journals = λ lock. journal_of desk lock;
  board = entries_alone desk;
  own = λ lock. if lock == desk.layout.buckets then places desk.layout.opened.board (entries_alone desk)
      else pass_places (opened_at desk.layout.opened lock) (journal_of desk lock);
}

-- what the keepers of its buckets keep: the part of each bucket as it is, or as it was when it was handed out, and the entries of it
-- that its keeper made since the collection was opened
abbrev pub keeping_alone : AloneState → Keeping
keeping_alone desk = record {
  part = λ number. part_of_slot (bucket_at desk number);
  own = λ number. keeper_entries (drop (opened_at desk.layout.opened number) (journal_of desk number));
}

-- somebody else has the keepers: the board is out, or it has not got them
abbrev pub KeepersAreOut : AloneState → Type 0
KeepersAreOut desk = (board : Board (Unit {0})) → desk.board ≡ Some board → board.keepers ≡ None

-- the bucket is sound, and the one of this number; it has the entries that it had when the collection was opened
pub record IsKept (layout : Layout) (number : ℕ) (bucket : Bucket) : Type 0 where
  pub sound : IsSound bucket
  pub is_of : IsBucketOf layout number bucket
  pub since : opened_at layout.opened number ≤ length bucket.journal.entries

-- the slot has a bucket that began with this map and this limit, on which nothing happened yet
pub record IsNewSlot (first : List Slice) (limit : ℕ) (slot : Option Bucket) : Type 0 where
  pub bucket : Bucket
  pub there : slot ≡ Some bucket
  pub sound : IsSound bucket
  pub begins : bucket.first ≡ first
  pub map_is : bucket.map ≡ first
  pub limited : bucket.limit ≡ limit
  pub empty : bucket.journal.entries ≡ []
  pub idle : bucket.phase ≡ phases.Idle
  pub unfed : bucket.feeds ≡ []
  pub cores : All IsNewCore bucket.replicas

-- so has each slot
abbrev pub AreNewSlots : List Slice → ℕ → List (Option Bucket) → Type 0
AreNewSlots first limit slots =
    (number : ℕ) (slot : Option Bucket) → slice_get slots number ≡ Some slot → IsNewSlot first limit slot

-- what is out is the bucket of the empty slot
pub record IsOut (desk : AloneState) (held : Held) : Type 0 where
  pub slot : slice_get desk.slots held.number ≡ Some None
  pub kept : IsKept desk.layout held.number held.bucket

-- The board is not out. It is sound, and the collection's, with the entries that it had when that was opened; and where it has the
-- keepers, each bucket is as it says.
pub record IsHome (desk : AloneState) (board : Board (Unit {0})) : Type 0 where
  pub sound : IsSoundBoard board
  pub is_of : IsBoardOf desk.layout board.first board.limit
  pub since : desk.layout.opened.board ≤ length board.journal.entries
  pub rest : board.keepers ≡ Some tt → AreAtRest desk.layout board.journal.entries (keeping_alone desk)
  pub none_out : desk.board_out ≡ None

-- What is true of a desk: each slot has its bucket but that of what is out, and the board is there, or its entries are what is out.
pub record IsDesk (desk : AloneState) : Type 0 where
  pub count : desk.layout.buckets ≡ length desk.slots
  pub buckets : IsBucketCount desk.layout.buckets
  pub nodes : 1 ≤ desk.layout.nodes
  pub kept : (number : ℕ) (bucket : Bucket) → slice_get desk.slots number ≡ Some (Some bucket)
      → IsKept desk.layout number bucket
  pub empty : (number : ℕ) → slice_get desk.slots number ≡ Some None
      → (held : Held) × (desk.out ≡ Some held) × (held.number ≡ number)
  pub is_out : (held : Held) → desk.out ≡ Some held → IsOut desk held
  pub home : (board : Board (Unit {0})) → desk.board ≡ Some board → IsHome desk board
  pub away : desk.board ≡ None → (entries : List BoardEntry) × (desk.board_out ≡ Some entries) × IsLegalBoard desk.layout.first entries
      × (desk.layout.opened.board ≤ length entries)

-- the desk once this bucket was handed out
abbrev pub handed_out : AloneState → Held → AloneState
handed_out desk held = record desk { slots = set desk.slots held.number None; out = Some held }

-- the desk once the bucket of this number was taken back
abbrev pub taken_back : AloneState → ℕ → Bucket → AloneState
taken_back desk number bucket = record desk { slots = set desk.slots number (Some bucket); out = None }

-- the part of the bucket is as it was, and so are the entries from this place on that its keeper made
pub record KeepsPart (from : ℕ) (old new : Bucket) : Type 0 where
  pub part : part_of new ≡ part_of old
  pub own : keeper_entries (drop from new.journal.entries) ≡ keeper_entries (drop from old.journal.entries)

-- The bucket may be put into the place of the one that was handed out: it is the one of its number, and somebody else has the keepers
-- or what its keeper keeps is as it was.
pub record MayStand (desk : AloneState) (held : Held) (bucket : Bucket) : Type 0 where
  pub kept : IsKept desk.layout held.number bucket
  pub keeps : KeepersAreOut desk ⊎ KeepsPart (opened_at desk.layout.opened held.number) held.bucket bucket
