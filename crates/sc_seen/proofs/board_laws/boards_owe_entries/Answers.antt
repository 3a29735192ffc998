-- What a legal journal of the board has still to get.
use Rattle.sc_seen.proofs.BoardLemmas.{boards_owe_entries}
use Rattle.sc_seen.proofs.board_laws.boards_owe_entries.Goals as goal

pub returns : goal.returns
returns c = boards_owe_entries
