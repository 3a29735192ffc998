-- Heads are prefix-free, and a head says where its body ends.
use Rattle.sc_http.proofs.MessageLemmas.{one_reading}
use Rattle.sc_http.proofs.laws.no_request_is_a_prefix.Goals as goal

pub returns : goal.returns
returns c = one_reading
