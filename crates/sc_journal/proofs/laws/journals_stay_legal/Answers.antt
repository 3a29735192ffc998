-- The laws are the lemmas on legal journals and on the versions in them.
use Rattle.sc_journal.proofs.LegalLemmas.{IsLegal-none, IsLegal-push, IsLegal-prefix}
use Rattle.sc_journal.proofs.VersionLemmas.{ascends_in_versions}
use Rattle.sc_journal.proofs.laws.journals_stay_legal.Goals as goal

pub returns-clause-grows : goal.returns-clause-grows
returns-clause-grows c first = (IsLegal-none first, IsLegal-push first)

pub returns-clause-prefixes : goal.returns-clause-prefixes
returns-clause-prefixes c = IsLegal-prefix

pub returns-clause-versions : goal.returns-clause-versions
returns-clause-versions c = ascends_in_versions
