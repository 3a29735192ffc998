-- The law is the lemma on the slices of a legal journal.
use Rattle.sc_journal.proofs.MapLemmas.{keeps_a_map}
use Rattle.sc_journal.proofs.laws.journals_keep_a_map.Goals as goal

pub returns : goal.returns
returns c = keeps_a_map
