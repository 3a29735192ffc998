-- A body is read by its framing.
use Rattle.sc_http.proofs.body.read_body.Goals as goal

pub returns-in-Chunked-clause-needed : goal.returns-in-Chunked-clause-needed
returns-in-Chunked-clause-needed g c = rw (c.in-Chunked.is) c.read_chunked.ensures.needed
