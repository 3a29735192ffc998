-- The laws are the lemmas on what leaves a part.
use Rattle.sc_keeper.proofs.PassLemmas.{part-step, part-refused, part-delivered_all_to}
use Rattle.sc_keeper.proofs.laws.passes_keep_the_parts.Goals as goal

pub returns-clause-passes : goal.returns-clause-passes
returns-clause-passes c = part-step

pub returns-clause-refusals : goal.returns-clause-refusals
returns-clause-refusals c = part-refused

pub returns-clause-deliveries : goal.returns-clause-deliveries
returns-clause-deliveries c = part-delivered_all_to
