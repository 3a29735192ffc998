-- What dropping a slice leaves of what is known of a collection, and of the board that is held meanwhile.
use Rattle.std.specs.Prelude.{◌≡◌, ◌≢◌, ◌<◌, ℕ, Bool, true, false, List, [], ◌∷◌, ◌++◌, length, None, if◌then◌else◌}
use mathlib.Core.List.{IsPrefix}
use Rattle.sc_record.specs.declared.slice.SliceId.{SliceId}
use Rattle.sc_record.specs.declared.entry.Entry.{Entry}
use Rattle.sc_record.specs.declared.entry.Entry.TheVariants as entry
use Rattle.sc_cluster.specs.declared.slice.Slice.{Slice}
use Rattle.sc_io.specs.declared.hosts.Host.{Host}
use Rattle.sc_cores.specs.Cores.{cores_of_slice}
use Rattle.sc_seen.specs.Board.{board_map, running_split}
use Rattle.sc_seen.specs.Seen.{Layout, Seen}
use Rattle.sc_seen.specs.Moments.{View}
use Rattle.sc_seen.specs.declared.board.BoardEntry.{BoardEntry}
use Rattle.sc_seen.specs.declared.board.BoardEntry.TheVariants as board
use Rattle.sc_board.specs.Splits.{IsOfNamed}
use Rattle.sc_keeper.specs.Events.{PartDrops}
use Rattle.sc_collection.specs.Known.{Known}
use Rattle.sc_admin.specs.Deletes.{DeleteCourse, kept, dropped, noted_by_delete, LeavesBucket}

-- The slice was dropped from the bucket of this number: what was seen of its journal went on, and the entry that says so is the last.
pub record IsDroppedIn (slice : SliceId) (old new : Known) (b : ℕ) : Type 0 where
  pub before : List Entry
  pub went_on : IsPrefix (old.seen.journals b) before
  pub journal : new.seen.journals b ≡ before ++ entry.Dropped slice ∷ []
  pub own : new.keeping.own b ≡ old.keeping.own b ++ entry.Dropped slice ∷ []
  pub part : PartDrops (old.keeping.part b) slice (new.keeping.part b)

-- what stands while the board is held: what was seen of the collection, and the board's entries
pub record WithBoard : Type 0 where
  pub seen : Seen
  pub entries : List BoardEntry

abbrev pub with_board : Seen → List BoardEntry → WithBoard
with_board seen entries = record { seen = seen; entries = entries }

-- The slice of this name was dropped from each bucket and from the board. No split ran. These are the slice's cores.
pub record DropsSlice (layout : Layout) (shard : List ℕ) (old new : WithBoard) (cores : List Host) : Type 0 where
  pub slice : Slice
  pub named : IsOfNamed (board_map layout.first old.entries) shard (λ one. one ≡ slice)
  pub idle : running_split old.entries ≡ None
  pub noted : new.entries ≡ old.entries ++ board.Dropped slice.id ∷ []
  pub buckets : (lock : ℕ) → lock < layout.buckets → LeavesBucket (dropped slice) old.seen new.seen lock
  pub cores_are : cores ≡ cores_of_slice layout.nodes slice

-- whether a deletion that went so made an entry on the board
abbrev pub is_made : DeleteCourse → Bool
is_made kept = false
is_made (dropped slice) = true

-- A deletion went so, at one stop of the board, which had these entries then: what was seen of the board went on, and the entry that the
-- deletion made is one's own.
pub record Deletes (layout : Layout) (course : DeleteCourse) (old new : View) : Type 0 where
  pub held : List BoardEntry
  pub went_on : IsPrefix old.seen.board held
  pub board : new.seen.board ≡ held ++ noted_by_delete course
  pub own : new.seen.own layout.buckets ≡ old.seen.own layout.buckets ++ (if is_made course then length held ∷ [] else [])
  pub others_own : (lock : ℕ) → lock ≢ layout.buckets → new.seen.own lock ≡ old.seen.own lock
  pub buckets : (lock : ℕ) → lock < layout.buckets → LeavesBucket course old.seen new.seen lock
  pub stops : new.stops ≡ old.stops ++ record { lock = layout.buckets; place = length held; made = is_made course } ∷ []
