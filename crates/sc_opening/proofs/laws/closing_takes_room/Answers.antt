-- The laws are the lemmas on what a closed journal and the board have and owe.
use Rattle.sc_opening.proofs.RoomLemmas.{closing_takes_room, board_takes_room}
use Rattle.sc_opening.proofs.laws.closing_takes_room.Goals as goal

pub returns-clause-journal : goal.returns-clause-journal
returns-clause-journal c = closing_takes_room

pub returns-clause-board : goal.returns-clause-board
returns-clause-board c = board_takes_room
