-- How much room it takes to close journals.
use Rattle.std.specs.Prelude.{ℕ, ◌+◌, if◌then◌else◌, List, [], ◌∷◌, drop, Option, Some, None}
use Rattle.sc_record.specs.declared.entry.Entry.{Entry}
use Rattle.sc_cluster.specs.declared.plan.SplitPlan.{SplitPlan}
use Rattle.sc_cluster.specs.declared.slice.Slice.{Slice}
use Rattle.sc_journal.specs.Splits.{entries_of_split, HasRoomFor}
use Rattle.sc_seen.specs.Board.{BoardHasRoom}
use Rattle.sc_opening.specs.declared.change.Change.{Change}
use Rattle.sc_opening.specs.declared.change.Change.TheVariants as change
use Rattle.sc_opening.specs.Changes.{open_begun}
use Rattle.sc_opening.specs.Closed.{is_first, missing, closed}
use Rattle.sc_opening.specs.Collections.{board_of}

-- how many entries the splits of what was done take, each with what is owed once it has begun
abbrev pub room_of : List Change → ℕ
room_of [] = 0
room_of (change.Switched plan ∷ done) = entries_of_split plan.subs + room_of done
room_of (change.Dropped slice ∷ done) = room_of done

-- how many those take that a journal lacks in which this split is open: that one takes no more than it owes
abbrev pub room_to_catch_up : Option SplitPlan → List Change → ℕ
room_to_catch_up None done = room_of done
room_to_catch_up (Some plan) done = if is_first plan done then room_of (drop 1 done) else room_of done

abbrev pub room_to_close : List Entry → List Change → ℕ
room_to_close journal done = room_to_catch_up (open_begun journal) (missing journal done)

-- the journal has room for all that it owes once it is closed
abbrev pub HasRoomClosed : ℕ → List Slice → List Change → List Entry → Type 0
HasRoomClosed limit first done journal = HasRoomFor 0 limit first (closed journal done)

-- and the board has it
abbrev pub BoardHasRoomOpened : ℕ → List Slice → List Change → Type 0
BoardHasRoomOpened limit first done = BoardHasRoom 0 limit first (board_of done)
