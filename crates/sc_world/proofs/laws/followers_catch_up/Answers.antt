-- The laws are the lemmas on followers for which nothing is pending.
use Rattle.sc_world.proofs.CatchUpLemmas.{followers_catch_up, rejoined_catch_up}
use Rattle.sc_world.proofs.laws.followers_catch_up.Goals as goal

pub returns-clause-followers : goal.returns-clause-followers
returns-clause-followers c = followers_catch_up

pub returns-clause-rejoined : goal.returns-clause-rejoined
returns-clause-rejoined c = rejoined_catch_up
