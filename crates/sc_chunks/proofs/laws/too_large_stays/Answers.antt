-- Bytes that are too large stay so.
use Rattle.sc_chunks.proofs.EndLemmas.{too_large_stays}
use Rattle.sc_chunks.proofs.laws.too_large_stays.Goals as goal

pub returns : goal.returns
returns c = too_large_stays
