-- The laws are the lemmas on what a run adds.
use Rattle.sc_world.proofs.RunLemmas.{keeps_the_table, stays_without_orders}
use Rattle.sc_world.proofs.laws.splits_keep_the_table.Goals as goal

pub returns-clause-kept : goal.returns-clause-kept
returns-clause-kept c = keeps_the_table

pub returns-clause-stays : goal.returns-clause-stays
returns-clause-stays c = stays_without_orders
