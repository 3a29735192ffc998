-- Laws of opened journals, above their definitions.
use Rattle.std.specs.Prelude.{◌≡◌, ◌≢◌, ◌≤◌, ◌<◌, ◌↔◌, ℕ, ◌+◌, ◌*◌, true, false, List, [], ◌∷◌, ◌++◌, length, None, All, Contains, count_by}
use mathlib.Core.List.{IsPrefix}
use Rattle.sc_record.specs.declared.slice.SliceId.{SliceId}
use Rattle.sc_record.specs.declared.entry.Entry.{Entry}
use Rattle.sc_record.specs.declared.entry.Entry.TheVariants as entry
use Rattle.sc_cluster.specs.declared.plan.SplitPlan.{SplitPlan}
use Rattle.sc_cluster.specs.declared.slice.Slice.{Slice}
use Rattle.sc_cluster.specs.Slices.{forming, is_inactive}
use Rattle.sc_cluster.specs.Map.{IsMap}
use Rattle.sc_journal.specs.Journal.{writes, last_write, found, unsettled}
use Rattle.sc_journal.specs.Committed.{commits, committed}
use Rattle.sc_journal.specs.Splits.{map_after, open_split, owed, HasRoomFor}
use Rattle.sc_journal.specs.Down.{is_down, count_up}
use Rattle.sc_journal.specs.Seats.{seats}
use Rattle.sc_journal.specs.Legal.{IsLegal}
use Rattle.sc_journal.specs.Laws.{is_of_core}
use Rattle.sc_seen.specs.declared.board.BoardEntry.{BoardEntry}
use Rattle.sc_seen.specs.Board.{board_map, running_split, board_owed, IsLegalBoard}
use Rattle.sc_seen.specs.Rounds.{GoTogether}
use Rattle.sc_opening.specs.declared.change.Change.{Change}
use Rattle.sc_opening.specs.Changes.{open_begun, changes}
use Rattle.sc_opening.specs.Same.{same_plan, same_change}
use Rattle.sc_opening.specs.Closed.{entries_of, closing, closed}
use Rattle.sc_opening.specs.Room.{room_to_close, HasRoomClosed, BoardHasRoomOpened}
use Rattle.sc_opening.specs.Collections.{longest_changes, GoesWith, CanBeDone, board_of}

-- what a legal journal says was done can be done of any bucket with its first map
abbrev pub ChangesCanBeDone : Type 0
ChangesCanBeDone = (first : List Slice) (journal : List Entry) → IsLegal first journal → CanBeDone first (changes journal)

-- The list is what the first of the longest of the journals says: no journal before it says as much, and none says more.
pub record IsOfFirstLongest (journals : List (List Entry)) (done : List Change) : Type 0 where
  pub before : List (List Entry)
  pub journal : List Entry
  pub after : List (List Entry)
  pub journals_are : journals ≡ before ++ journal ∷ after
  pub done_is : done ≡ changes journal
  pub shorter : All (λ (other : List Entry). length (changes other) < length done) before
  pub no_longer : All (λ (other : List Entry). length (changes other) ≤ length done) after

-- of some journals the longest is such a list, and where each is legal it can be done
abbrev pub LongestIsOfFirst : Type 0
LongestIsOfFirst = (journal : List Entry) (others : List (List Entry))
    → IsOfFirstLongest (journal ∷ others) (longest_changes (journal ∷ others))

abbrev pub LongestCanBeDone : Type 0
LongestCanBeDone = (first : List Slice) (journals : List (List Entry)) → All (IsLegal first) journals
    → CanBeDone first (longest_changes journals)

-- a journal that is closed stays as a beginning
abbrev pub ClosedKeepsTheJournal : Type 0
ClosedKeepsTheJournal = (journal : List Entry) (done : List Change) → IsPrefix journal (closed journal done)

-- a legal journal that is closed is legal, by what can be done and goes on from what it says was done
abbrev pub ClosedIsLegal : Type 0
ClosedIsLegal = (first : List Slice) (journal : List Entry) (done : List Change) → IsLegal first journal
    → GoesWith done journal → CanBeDone first done → IsLegal first (closed journal done)

-- and says that just this was done
abbrev pub ClosedHasTheChanges : Type 0
ClosedHasTheChanges = (journal : List Entry) (done : List Change) → GoesWith done journal → changes (closed journal done) ≡ done

-- its slices are those of a bucket of which all this was done, and nothing else
abbrev pub ClosedHasTheMap : Type 0
ClosedHasTheMap = (first : List Slice) (journal : List Entry) (done : List Change) → IsLegal first journal
    → GoesWith done journal → CanBeDone first done → map_after first (closed journal done) ≡ map_after first (entries_of done)

-- in a closed journal no split is open, and each write is settled
pub record IsClosed (journal : List Entry) : Type 0 where
  pub no_split : open_split journal ≡ None
  pub no_plan : open_begun journal ≡ None
  pub all_settled : unsettled journal ≡ []

abbrev pub ClosedIsAtRest : Type 0
ClosedIsAtRest = (journal : List Entry) (done : List Change) → IsClosed (closed journal done)

-- so it owes an entry of each inactive slice and of each follower that is not down, and no other
abbrev pub ClosedOwesNoOther : Type 0
ClosedOwesNoOther = (first : List Slice) (journal : List Entry) → IsClosed journal
    → owed first journal ≡ count_by is_inactive (map_after first journal) + count_up (map_after first journal) journal

-- to close it once more adds nothing
abbrev pub OpeningTwice : Type 0
OpeningTwice = (journal : List Entry) (done : List Change) → GoesWith done journal
    → closed (closed journal done) done ≡ closed journal done

-- What a journal answers is the same once it is closed, since that adds no write and says nothing of any core: the last write of each id
-- and the version that is found of it. What was committed stays so, and is the same where no split is added. Where one is added, all that
-- was written is committed.
pub record AnswersAlike (journal : List Entry) (done : List Change) : Type 0 where
  pub no_write : writes (closing journal done) ≡ []
  pub no_core : All (λ (one : Entry). is_of_core one ≡ false) (closing journal done)
  pub last : (id : List ℕ) → last_write (closed journal done) id ≡ last_write journal id
  pub found_is : (id : List ℕ) → found (closed journal done) id ≡ found journal id
  pub committed_stays : IsPrefix (committed journal) (committed (closed journal done))
  pub committed_is : All (λ (one : Entry). commits one ≡ false) (closing journal done)
      → committed (closed journal done) ≡ committed journal
  pub all_committed : (one : Entry) → Contains (closing journal done) one → commits one ≡ true
      → (id : List ℕ) → last_write (committed (closed journal done)) id ≡ last_write journal id

abbrev pub ClosedAnswersAlike : Type 0
ClosedAnswersAlike = (journal : List Entry) (done : List Change) → AnswersAlike journal done

-- no entry that closes the journal drops the slice of this id
abbrev pub KeepsSlice : List Entry → List Change → ℕ → Type 0
KeepsSlice journal done id = (slice : SliceId) → Contains (closing journal done) (entry.Dropped slice) → slice.0 ≢ id

-- A journal that is closed says of the cores of each slice what it said before, but for a slice that is dropped: which are down, and which
-- sits in which seat.
pub record LeavesCores (journal : List Entry) (done : List Change) : Type 0 where
  pub down : (key : ℕ × ℕ) → KeepsSlice journal done key.0 → is_down (closed journal done) key ≡ is_down journal key
  pub seats_are : (slice : SliceId) (seat : ℕ) → KeepsSlice journal done slice.0
      → seats (closed journal done) slice seat ≡ seats journal slice seat

abbrev pub ClosedLeavesCores : Type 0
ClosedLeavesCores = (journal : List Entry) (done : List Change) → LeavesCores journal done

-- the tests on two splits and on two changes tell whether they are equal
abbrev pub TestsDecide : Type 0
TestsDecide = ((one other : SplitPlan) → (same_plan one other ≡ true) ↔ (one ≡ other))
    × ((one other : Change) → (same_change one other ≡ true) ↔ (one ≡ other))

-- The board of a collection of which this was done: its journal is legal, no split runs in it, its slices are those of each bucket whose
-- journal is closed by this, and its entries go with those that say so in a bucket.
pub record IsBoardOf (first : List Slice) (done : List Change) (entries : List BoardEntry) : Type 0 where
  pub legal : IsLegalBoard first entries
  pub rests : running_split entries ≡ None
  pub map_is : (journal : List Entry) → IsLegal first journal → GoesWith done journal
      → board_map first entries ≡ map_after first (closed journal done)
  pub together : GoTogether entries (entries_of done)
  pub owes : board_owed first entries ≡ count_by is_inactive (board_map first entries)

abbrev pub BoardsGoWithClosed : Type 0
BoardsGoWithClosed = (first : List Slice) (done : List Change) → IsMap first → forming first ≡ [] → CanBeDone first done
    → IsBoardOf first done (board_of done)

-- A journal that has room for the splits that it lacks has room when it is closed: what it owes anyway is enough for the end of its own
-- split and for the writes that are settled.
abbrev pub ClosingTakesRoom : Type 0
ClosingTakesRoom = (limit : ℕ) (first : List Slice) (journal : List Entry) (done : List Change) → IsMap first → forming first ≡ []
    → IsLegal first journal → GoesWith done journal → CanBeDone first done
    → HasRoomFor (room_to_close journal done) limit first journal → HasRoomClosed limit first done journal

-- four entries a change are enough for the board, beside one that drops each slice that is inactive at first
abbrev pub BoardTakesRoom : Type 0
BoardTakesRoom = (limit : ℕ) (first : List Slice) (done : List Change) → IsMap first → forming first ≡ [] → CanBeDone first done
    → count_by is_inactive first + 4 * length done ≤ limit → BoardHasRoomOpened limit first done
