-- After the last stop of an order the write of the first is settled.
use Rattle.sc_seen.proofs.BatchLemmas.{last_settles}
use Rattle.sc_seen.proofs.batches.last_stops_settle.Goals as goal

pub returns : goal.returns
returns c = last_settles
