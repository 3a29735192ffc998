-- Malformed bytes stay so.
use Rattle.sc_chunks.proofs.EndLemmas.{malformed_stays}
use Rattle.sc_chunks.proofs.laws.malformed_stays.Goals as goal

pub returns : goal.returns
returns c = malformed_stays
