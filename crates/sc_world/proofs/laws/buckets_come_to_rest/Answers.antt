-- The law is the lemma on the events that a bucket owes.
use Rattle.sc_world.proofs.RestLemmas.{buckets_come_to_rest}
use Rattle.sc_world.proofs.laws.buckets_come_to_rest.Goals as goal

pub returns : goal.returns
returns c = buckets_come_to_rest
