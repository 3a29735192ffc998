-- The law is the lemma on what the entries that close a journal leave open.
use Rattle.sc_opening.proofs.QuietLemmas.{closed_is_at_rest}
use Rattle.sc_opening.proofs.laws.closed_is_at_rest.Goals as goal

pub returns-clause-rest : goal.returns-clause-rest
returns-clause-rest c = closed_is_at_rest
