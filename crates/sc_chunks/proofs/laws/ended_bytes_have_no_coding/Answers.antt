-- Bytes that end begin with no coding.
use Rattle.sc_chunks.proofs.EndLemmas.{no_end_of_coding}
use Rattle.sc_chunks.proofs.laws.ended_bytes_have_no_coding.Goals as goal

pub returns : goal.returns
returns c = no_end_of_coding
