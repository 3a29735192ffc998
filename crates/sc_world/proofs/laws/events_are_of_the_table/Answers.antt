-- The law is the lemma on each event.
use Rattle.sc_world.proofs.EventLemmas.{events_are_of_the_table}
use Rattle.sc_world.proofs.laws.events_are_of_the_table.Goals as goal

pub returns : goal.returns
returns c = events_are_of_the_table
