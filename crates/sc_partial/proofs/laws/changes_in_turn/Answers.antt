-- The laws are those of the lemmas on changes in turn.
use Rattle.sc_partial.proofs.TurnLemmas.{keeps_last_set, adds_distinct_once, removes_what_is_added, sums_increments, sums_within_range}
use Rattle.sc_partial.proofs.laws.changes_in_turn.Goals as goal

pub returns-clause-set : goal.returns-clause-set
returns-clause-set c = keeps_last_set

pub returns-clause-add_distinct : goal.returns-clause-add_distinct
returns-clause-add_distinct c = adds_distinct_once

pub returns-clause-remove : goal.returns-clause-remove
returns-clause-remove c = removes_what_is_added

pub returns-clause-inc : goal.returns-clause-inc
returns-clause-inc c = sums_increments

pub returns-clause-in_range : goal.returns-clause-in_range
returns-clause-in_range c = sums_within_range
