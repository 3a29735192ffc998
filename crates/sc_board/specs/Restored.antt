-- What is true of a board while it follows a journal that was kept.
use Rattle.std.specs.Prelude.{◌≡◌, []}
use Rattle.sc_cluster.specs.Slices.{forming}
use Rattle.sc_cluster.specs.Map.{IsMap}
use Rattle.sc_seen.specs.Board.{IsLegalBoard, board_map}
use Rattle.sc_board.specs.declared.board.Board.{Board}
use Rattle.sc_board.specs.Leaders.{leaders_after}

-- its map and its leaders are those after the entries that it has so far, which are legal; what they owe is not counted yet
pub record IsFollowing {K : Type 0} (board : Board K) : Type 0 where
  pub first_map : IsMap board.first
  pub first_idle : forming board.first ≡ []
  pub legal : IsLegalBoard board.first board.journal.entries
  pub map_is : board.map ≡ board_map board.first board.journal.entries
  pub leaders_are : board.leaders ≡ leaders_after board.first board.journal.entries
