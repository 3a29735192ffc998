-- A legal journal of the board grows by what may come, and its prefixes are legal.
use Rattle.sc_seen.proofs.BoardLemmas.{boards_grow, boards_have_prefixes, boards_go_on}
use Rattle.sc_seen.proofs.board_laws.boards_stay_legal.Goals as goal

pub returns-clause-grows : goal.returns-clause-grows
returns-clause-grows c = boards_grow

pub returns-clause-prefixes : goal.returns-clause-prefixes
returns-clause-prefixes c = boards_have_prefixes

pub returns-clause-goes_on : goal.returns-clause-goes_on
returns-clause-goes_on c = boards_go_on
