-- The laws are the lemmas on what a journal owes at rest, and on how it comes there.
use Rattle.sc_journal.proofs.RestLemmas.{owes_nothing_at_rest, comes_to_rest}
use Rattle.sc_journal.proofs.laws.journals_come_to_rest.Goals as goal

pub returns-clause-nothing_owed : goal.returns-clause-nothing_owed
returns-clause-nothing_owed c = owes_nothing_at_rest

pub returns-clause-comes : goal.returns-clause-comes
returns-clause-comes c = comes_to_rest
