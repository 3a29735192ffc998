-- The law is the lemma on what a get shows after an accepted order.
use Rattle.sc_session.specs.Laws.{GetsShowOwnWrites}
use Rattle.sc_session.proofs.OwnReadsLemmas.{gets_show, of_connections}
use Rattle.sc_session.proofs.laws.gets_show_own_writes.Goals as goal

pub returns-clause-exchanges : goal.returns-clause-exchanges
returns-clause-exchanges g c = gets_show

pub returns-clause-connections : goal.returns-clause-connections
returns-clause-connections g c = of_connections g.C.Clock.gives GetsShowOwnWrites gets_show
