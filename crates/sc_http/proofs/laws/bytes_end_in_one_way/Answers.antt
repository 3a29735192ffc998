-- After a whole head that decides; before one, the causes exclude each other but in a target that can't be UTF-8.
use Rattle.sc_http.proofs.EndingLemmas.{one_ending}
use Rattle.sc_http.proofs.laws.bytes_end_in_one_way.Goals as goal

pub returns : goal.returns
returns c = one_ending
