-- The laws are the lemmas on what a journal answers once it is closed, and on what it says of cores.
use Rattle.sc_opening.proofs.AnswerLemmas.{closed_answers_alike}
use Rattle.sc_opening.proofs.CoreLemmas.{closed_leaves_cores}
use Rattle.sc_opening.proofs.laws.closed_answers_alike.Goals as goal

pub returns-clause-answers : goal.returns-clause-answers
returns-clause-answers c = closed_answers_alike

pub returns-clause-cores : goal.returns-clause-cores
returns-clause-cores c = closed_leaves_cores
