-- A coding stays.
use Rattle.sc_chunks.proofs.EndLemmas.{coding_stays}
use Rattle.sc_chunks.proofs.laws.coding_stays.Goals as goal

pub returns : goal.returns
returns c = coding_stays
