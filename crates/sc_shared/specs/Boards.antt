-- What the lock of the board keeps: the board, and a badge of each bucket's lock.
use Rattle.std.specs.Prelude.{◌≡◌, ◌⊎◌, ℕ, List, [], ◌∷◌, ◌++◌, length, map, Some}
use Rattle.sc_cluster.specs.declared.slice.Slice.{Slice}
use Rattle.sc_seen.specs.declared.board.BoardEntry.{BoardEntry}
use Rattle.sc_seen.specs.Seen.{Opened, Layout}
use Rattle.sc_lock.specs.Tokens.{badge_lock}
use Rattle.sc_board.specs.Boards.{IsSoundBoard}
use Rattle.sc_collection.specs.Desks.{AreAtRest}
use Rattle.sc_shared.specs.declared.keepers.Keepers.{Keepers}
use Rattle.sc_shared.specs.declared.board.KeptBoard.{KeptBoard}
use Rattle.sc_shared.specs.Keepers.{BucketLocks, AreKeepers, keeping_of}

-- what nothing changes of a board: the map with which it began, its limit, the locks of the buckets, and how many entries each journal of
-- the collection had when it was opened
pub record BoardName : Type 0 where
  pub first : List Slice
  pub limit : ℕ
  pub locks : BucketLocks
  pub opened : Opened

-- the name of a board with its badges and what was opened
abbrev pub board_name_of : KeptBoard → BoardName
board_name_of kept = record {
  first = kept.board.first;
  limit = kept.board.limit;
  locks = map badge_lock kept.badges.items;
  opened = kept.opened;
}

-- how a collection with this board is laid out, but for its nodes, of which no keeper knows
abbrev pub layout_of_board : BoardName → Layout
layout_of_board name =
    record { buckets = length name.locks; nodes = 0; first = name.first; limit = name.limit; opened = name.opened }

-- the keepers are those of the board's buckets, and each bucket is as the board says
pub record AreHome (kept : KeptBoard) (keepers : Keepers) : Type 0 where
  pub keepers_are : AreKeepers (map badge_lock kept.badges.items) keepers.keepers.items
  pub rest : AreAtRest (layout_of_board (board_name_of kept)) kept.board.journal.entries (keeping_of keepers.keepers.items)

-- the board is sound, and where it has the keepers each bucket is as it says
pub record IsSoundKept (kept : KeptBoard) : Type 0 where
  pub sound : IsSoundBoard kept.board
  pub home : (keepers : Keepers) → kept.board.keepers ≡ Some keepers → AreHome kept keepers

-- the second comes from the first by one entry at most, and has its name
pub record BoardFollows (old new : KeptBoard) : Type 0 where
  pub grows : (new.board.journal.entries ≡ old.board.journal.entries)
      ⊎ ((one : BoardEntry) × (new.board.journal.entries ≡ old.board.journal.entries ++ one ∷ []))
  pub name : board_name_of old ≡ board_name_of new
