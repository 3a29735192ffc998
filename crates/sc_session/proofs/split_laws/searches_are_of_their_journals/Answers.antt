-- The laws are the lemmas on searches over journals.
use Rattle.sc_session.proofs.SplitSearchLemmas.{searches_are_of_their_journals, searches_are_of_their_commits}
use Rattle.sc_session.proofs.split_laws.searches_are_of_their_journals.Goals as goal

pub returns-clause-journals : goal.returns-clause-journals
returns-clause-journals c = searches_are_of_their_journals

pub returns-clause-commits : goal.returns-clause-commits
returns-clause-commits c = searches_are_of_their_commits
