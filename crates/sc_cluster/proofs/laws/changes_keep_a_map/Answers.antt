-- The laws are those of the lemmas on histories.
use Rattle.sc_cluster.proofs.HistoryLemmas.{keeps_a_map, opens_one_split, has_one_parent, uses_no_id_again}
use Rattle.sc_cluster.proofs.UndoLemmas.{counts_ids_up, undoes_a_failed_split, may_leave_recovery_out}
use Rattle.sc_cluster.proofs.laws.changes_keep_a_map.Goals as goal

pub returns-clause-map : goal.returns-clause-map
returns-clause-map c = keeps_a_map

pub returns-clause-one_split : goal.returns-clause-one_split
returns-clause-one_split c = opens_one_split

pub returns-clause-one_parent : goal.returns-clause-one_parent
returns-clause-one_parent c = has_one_parent

pub returns-clause-ids : goal.returns-clause-ids
returns-clause-ids c = uses_no_id_again

pub returns-clause-greatest_id : goal.returns-clause-greatest_id
returns-clause-greatest_id c = counts_ids_up

pub returns-clause-failed : goal.returns-clause-failed
returns-clause-failed c = undoes_a_failed_split

pub returns-clause-recovery : goal.returns-clause-recovery
returns-clause-recovery c = may_leave_recovery_out
