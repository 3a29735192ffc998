-- What is true of a board at every moment.
use Rattle.std.specs.Prelude.{◌≡◌, ◌≤◌, ◌<◌, ◌+◌, not, [], length, is_some}
use Rattle.sc_cluster.specs.Limits.{most_slices}
use Rattle.sc_cluster.specs.Slices.{forming, greatest_id}
use Rattle.sc_cluster.specs.Map.{IsMap}
use Rattle.sc_journal.specs.Limits.{greatest_journal}
use Rattle.sc_seen.specs.Board.{IsLegalBoard, board_map, board_owed, running_split}
use Rattle.sc_board.specs.declared.board.Board.{Board}
use Rattle.sc_board.specs.Leaders.{leaders_after}

-- What is true of a board: its journal is legal, its map is what the journal makes of the first one, and its leaders are those that
-- the journal notes. It counts the entries that it owes, and has room for them in its limit and in memory. It has the keepers of all
-- buckets exactly while no split runs.
pub record IsSoundBoard {K : Type 0} (board : Board K) : Type 0 where
  pub first_map : IsMap board.first
  pub first_idle : forming board.first ≡ []
  pub first_ids : greatest_id board.first < most_slices
  pub limited : board.limit ≤ greatest_journal
  pub legal : IsLegalBoard board.first board.journal.entries
  pub map_is : board.map ≡ board_map board.first board.journal.entries
  pub leaders_are : board.leaders ≡ leaders_after board.first board.journal.entries
  pub owed_is : board.owed ≡ board_owed board.first board.journal.entries
  pub room : length board.journal.entries + board.owed ≤ board.limit
  pub memory : board.owed ≤ board.journal.room
  pub keepers_there : is_some board.keepers ≡ not (is_some (running_split board.journal.entries))
