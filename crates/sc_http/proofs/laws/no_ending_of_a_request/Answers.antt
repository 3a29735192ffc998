-- A head that is whole is the one that the request has.
use Rattle.sc_http.proofs.EndingLemmas.{no_ending_of_request}
use Rattle.sc_http.proofs.laws.no_ending_of_a_request.Goals as goal

pub returns : goal.returns
returns c = no_ending_of_request
