-- Bytes begin with one coding.
use Rattle.sc_chunks.proofs.CodingLemmas.{one_coding}
use Rattle.sc_chunks.proofs.laws.bytes_have_one_coding.Goals as goal

pub returns : goal.returns
returns c = one_coding
