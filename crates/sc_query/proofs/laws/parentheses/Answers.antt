-- Parentheses round a query keep its tree.
use Rattle.sc_query.proofs.EnclosedLemmas.{enclosed}
use Rattle.sc_query.proofs.laws.parentheses.Goals as goal

pub returns : goal.returns
returns c = enclosed
