-- The laws are the lemmas on the keeper's entries.
use Rattle.sc_keeper.proofs.PartLemmas.{none_between}
use Rattle.sc_keeper.proofs.PassLemmas.{step_adds_no_keeper_entry, keeper_adds_no_pass_entry}
use Rattle.sc_keeper.proofs.laws.journals_tell_the_keepers_entries.Goals as goal

pub returns-clause-passes : goal.returns-clause-passes
returns-clause-passes c = step_adds_no_keeper_entry

pub returns-clause-keepers : goal.returns-clause-keepers
returns-clause-keepers c = keeper_adds_no_pass_entry

pub returns-clause-between : goal.returns-clause-between
returns-clause-between c = none_between
