-- What was committed is found, and no more with a route.
use Rattle.sc_fanout.proofs.LawLemmas.{no_more, show_all, change_nothing}
use Rattle.sc_fanout.proofs.laws.searches_find_what_was_committed.Goals as goal

pub returns-clause-routed : goal.returns-clause-routed
returns-clause-routed c = no_more

pub returns-clause-committed : goal.returns-clause-committed
returns-clause-committed c = show_all

pub returns-clause-not_yet : goal.returns-clause-not_yet
returns-clause-not_yet c = change_nothing
