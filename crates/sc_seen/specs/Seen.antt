-- What is seen of a collection: the journals of its buckets, that of its board, and which of their entries are one's own.
use Rattle.std.specs.Prelude.{◌≡◌, ◌≤◌, ◌<◌, ℕ, ◌+◌, ◌==◌, Bool, true, false, List, [], ◌∷◌, ◌++◌, length, get_or, map, filter, take, slice_get, if◌then◌else◌, ⊤}
use Rattle.std.specs.List.{AllByRecursion}
use Rattle.std.specs.Option.{option_map_or}
use mathlib.Core.List.{IsPrefix}
use Rattle.sc_record.specs.declared.entry.Entry.{Entry}
use Rattle.sc_cluster.specs.declared.slice.Slice.{Slice}
use Rattle.sc_journal.specs.Legal.{IsLegal}
use Rattle.sc_journal.specs.Splits.{Basis}
use Rattle.sc_seen.specs.declared.board.BoardEntry.{BoardEntry}
use Rattle.sc_seen.specs.declared.board.BoardEntry.TheVariants as board
use Rattle.sc_seen.specs.Board.{IsLegalBoard}
use Rattle.sc_seen.specs.declared.stop.Stop.{Stop}

-- how many entries each bucket's journal, by the bucket's number, and the board's had when the collection was opened: those are nobody's own
pub record Opened : Type 0 where
  pub journals : List ℕ
  pub board : ℕ

-- how many the journal that a lock guards had; where none is told it had none
abbrev pub opened_at : Opened → ℕ → ℕ
opened_at opened lock = get_or opened.journals lock 0

-- a collection that is new: no journal had an entry
abbrev pub nothing_opened : Opened
nothing_opened = record { journals = []; board = 0 }

-- how a collection is laid out, which nothing changes: its buckets, its nodes, the map with which each bucket began, how many
-- entries a journal may have, and how many there were when it was opened
pub record Layout : Type 0 where
  pub buckets : ℕ
  pub nodes : ℕ
  pub first : List Slice
  pub limit : ℕ
  pub opened : Opened

-- what each bucket's journal is based on
abbrev pub basis_of : Layout → Basis
basis_of layout = record { first = layout.first; limit = layout.limit }

-- What was seen: the journal of each bucket, by the number of the lock that guards it, and that of the board, whose lock comes
-- after those of the buckets; and by lock the places of the entries that are one's own.
pub record Seen : Type 0 where
  pub journals : ℕ → List Entry
  pub board : List BoardEntry
  pub own : ℕ → List ℕ

-- how many entries a journal has after a stop
abbrev pub place_after : Stop → ℕ
place_after stop = if stop.made then stop.place + 1 else stop.place

-- the journal at a stop
abbrev pub journal_at : Seen → Stop → List Entry
journal_at seen stop = take stop.place (seen.journals stop.lock)

-- the places ascend from there on, and each stop comes after the entry that the one before it made
abbrev pub ComeInOrder : ℕ → List Stop → Type 0
ComeInOrder from [] = ⊤
ComeInOrder from (stop ∷ stops) = (from ≤ stop.place) × ComeInOrder (place_after stop) stops

-- the stops at one lock
abbrev pub stops_at : ℕ → List Stop → List Stop
stops_at lock stops = filter (λ (stop : Stop). stop.lock == lock) stops

-- the places of the entries that were made at one lock
abbrev pub made_at : ℕ → List Stop → List ℕ
made_at lock stops = map (λ (stop : Stop). stop.place) (filter (λ (stop : Stop). stop.made) (stops_at lock stops))

-- how many entries were seen of the journal that a lock guards
abbrev pub entries_at : Layout → Seen → ℕ → ℕ
entries_at layout seen lock = if lock == layout.buckets then length seen.board else length (seen.journals lock)

-- the lock is that of a bucket or of the board, and the entries up to the stop, with its own if it made one, were seen there
pub record IsStopWithin (layout : Layout) (seen : Seen) (stop : Stop) : Type 0 where
  pub lock : stop.lock ≤ layout.buckets
  pub place : place_after stop ≤ entries_at layout seen stop.lock

-- an entry of the board that a stop makes: that a split began, that a slice was dropped, or that a replica leads
abbrev pub is_noted : BoardEntry → Bool
is_noted (board.Begun plan) = true
is_noted (board.Dropped slice) = true
is_noted (board.Led slice replica) = true
is_noted _ = false

-- of these places of the board those whose entry a stop makes
abbrev pub noted_at : List BoardEntry → List ℕ → List ℕ
noted_at entries places = filter (λ (place : ℕ). option_map_or is_noted (slice_get entries place) false) places

-- Of the board's entries between what was seen before and after these stops, those at the places `added` are one's own. Of those that
-- a stop makes they are exactly the ones that the stops made.
pub record NotesBoard (layout : Layout) (old new : Seen) (stops : List Stop) : Type 0 where
  pub added : List ℕ
  pub own : new.own layout.buckets ≡ old.own layout.buckets ++ added
  pub after : AllByRecursion (λ (place : ℕ). length old.board ≤ place) added
  pub within : AllByRecursion (λ (place : ℕ). place < length new.board) added
  pub made : noted_at new.board added ≡ made_at layout.buckets stops

-- What was seen before is a prefix of what was seen after these stops. Of a bucket's entries between, exactly those that the stops
-- made are one's own, and of the board's those that the stops made and those that they led to. The stops come in order.
pub record Extends (layout : Layout) (old new : Seen) (stops : List Stop) : Type 0 where
  pub seen : (lock : ℕ) → IsPrefix (old.journals lock) (new.journals lock)
  pub board : IsPrefix old.board new.board
  pub own : (lock : ℕ) → lock < layout.buckets → new.own lock ≡ old.own lock ++ made_at lock stops
  pub notes : NotesBoard layout old new stops
  pub ascend : (lock : ℕ) → ComeInOrder (entries_at layout old lock) (stops_at lock stops)
  pub within : AllByRecursion (IsStopWithin layout new) stops

-- each journal that was seen is legal, and so is the board's; there is none beside those of the buckets
pub record AreLegal (layout : Layout) (seen : Seen) : Type 0 where
  pub buckets : (lock : ℕ) → lock < layout.buckets → IsLegal layout.first (seen.journals lock)
  pub board : IsLegalBoard layout.first seen.board
  pub others : (lock : ℕ) → layout.buckets ≤ lock → seen.journals lock ≡ []

-- what is seen later extends what was seen, of each journal and of the board
pub record SeesMore (seen later : Seen) : Type 0 where
  pub journals : (lock : ℕ) → IsPrefix (seen.journals lock) (later.journals lock)
  pub board : IsPrefix seen.board later.board

-- it is so of all that is seen from now on
abbrev pub FromNowOn : Seen → (Seen → Type 0) → Type 0
FromNowOn now IsSo = (later : Seen) → SeesMore now later → IsSo later

-- of each bucket the last of the stops is at the end of what was seen of its journal
abbrev pub EndAtLast : Layout → Seen → List Stop → Type 0
EndAtLast layout seen stops = (before : List Stop) (stop : Stop) (after : List Stop) → stops ≡ before ++ stop ∷ after
    → stop.lock < layout.buckets → stops_at stop.lock after ≡ [] → place_after stop ≡ length (seen.journals stop.lock)

-- What was seen went on by these stops of buckets: of each bucket the last of them is at the end of what was seen there, what was seen
-- of the other buckets stayed, and so did the board.
pub record GoesOn (layout : Layout) (old new : Seen) (stops : List Stop) : Type 0 where
  pub extends : Extends layout old new stops
  pub last : EndAtLast layout new stops
  pub stays : (lock : ℕ) → lock < layout.buckets → stops_at lock stops ≡ [] → new.journals lock ≡ old.journals lock
  pub board : new.board ≡ old.board
  pub board_own : new.own layout.buckets ≡ old.own layout.buckets
