-- The law is the lemma on what the board notes of what was done.
use Rattle.sc_opening.proofs.BoardOfLemmas.{boards_go_with_closed}
use Rattle.sc_opening.proofs.laws.boards_go_with_closed.Goals as goal

pub returns : goal.returns
returns c = boards_go_with_closed
