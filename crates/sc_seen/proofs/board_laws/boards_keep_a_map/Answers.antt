-- A legal journal of the board makes a map of the slices, and runs one split at most.
use Rattle.sc_seen.proofs.BoardLemmas.{boards_keep_a_map, boards_run_one_split, boards_count_ids_up, failed_leaves_the_map}
use Rattle.sc_seen.proofs.board_laws.boards_keep_a_map.Goals as goal

pub returns-clause-map : goal.returns-clause-map
returns-clause-map c = boards_keep_a_map

pub returns-clause-one_split : goal.returns-clause-one_split
returns-clause-one_split c = boards_run_one_split

pub returns-clause-ids : goal.returns-clause-ids
returns-clause-ids c = boards_count_ids_up

pub returns-clause-failed : goal.returns-clause-failed
returns-clause-failed c = failed_leaves_the_map
