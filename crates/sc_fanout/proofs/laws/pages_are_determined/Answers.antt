-- The laws are the lemmas on pages.
use Rattle.sc_fanout.proofs.PageLemmas.{determined, follow_on, whole}
use Rattle.sc_fanout.proofs.laws.pages_are_determined.Goals as goal

pub returns-clause-determined : goal.returns-clause-determined
returns-clause-determined c = determined

pub returns-clause-follow_on : goal.returns-clause-follow_on
returns-clause-follow_on c = follow_on

pub returns-clause-whole : goal.returns-clause-whole
returns-clause-whole c = whole
