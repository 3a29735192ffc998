-- The laws are the lemmas on what a split that was done leaves.
use Rattle.sc_session.proofs.SplitJournalLemmas.{gets_stay, beginnings_commit}
use Rattle.sc_session.proofs.SplitPlaceLemmas.{done_splits_switch}
use Rattle.sc_session.proofs.SplitSearchLemmas.{searches_stay, findings_stay}
use Rattle.sc_session.proofs.split_laws.done_splits_keep_the_answers.Goals as goal

pub returns-clause-switches : goal.returns-clause-switches
returns-clause-switches c = done_splits_switch

pub returns-clause-gets : goal.returns-clause-gets
returns-clause-gets c = gets_stay

pub returns-clause-commits : goal.returns-clause-commits
returns-clause-commits c = beginnings_commit

pub returns-clause-searches : goal.returns-clause-searches
returns-clause-searches c = searches_stay

pub returns-clause-findings : goal.returns-clause-findings
returns-clause-findings c = findings_stay
