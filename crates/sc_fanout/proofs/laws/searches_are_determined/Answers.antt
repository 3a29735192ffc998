-- The journals at its stops determine what a search shows.
use Rattle.sc_fanout.proofs.DeterminedLemmas.{search_determined}
use Rattle.sc_fanout.proofs.laws.searches_are_determined.Goals as goal

pub returns : goal.returns
returns c = search_determined
