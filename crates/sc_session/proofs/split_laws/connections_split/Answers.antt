-- The laws are the lemmas on exchanges whose command was a split.
use Rattle.sc_session.proofs.SplitExchangeLemmas.{connections_split, looks_are_around}
use Rattle.sc_session.proofs.split_laws.connections_split.Goals as goal

pub returns-clause-splits : goal.returns-clause-splits
returns-clause-splits g c = connections_split g.C.Clock.gives

pub returns-clause-looks : goal.returns-clause-looks
returns-clause-looks g c = looks_are_around g.C.Clock.gives
