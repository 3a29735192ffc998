-- Bytes end in at most one way.
use Rattle.sc_chunks.proofs.EndLemmas.{one_coding_end}
use Rattle.sc_chunks.proofs.laws.bytes_end_in_one_way.Goals as goal

pub returns : goal.returns
returns c = one_coding_end
