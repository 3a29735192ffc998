-- The law is the lemma on what a get of several ids shows after an accepted order for one of them.
use Rattle.sc_session.specs.Laws.{GetsOfIdsShowOwnWrites}
use Rattle.sc_session.proofs.OwnReadsLemmas.{gets_of_ids_show, of_connections}
use Rattle.sc_session.proofs.laws.gets_of_ids_show_own_writes.Goals as goal

pub returns-clause-exchanges : goal.returns-clause-exchanges
returns-clause-exchanges g c = gets_of_ids_show

pub returns-clause-connections : goal.returns-clause-connections
returns-clause-connections g c = of_connections g.C.Clock.gives GetsOfIdsShowOwnWrites gets_of_ids_show
