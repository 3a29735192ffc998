-- What the status of a demonstration is not, and when it is that of a sink that failed.
use Rattle.solr_split.proofs.DemoLemmas.{not_refused_or_read}
use Rattle.solr_split.proofs.run.run_makers.Goals as goal

pub returns-clause-status : goal.returns-clause-status
returns-clause-status g c = not_refused_or_read _ c.args.demo.now _ _ c.run_demo.ensures.ends.end

pub returns-clause-write_fault : goal.returns-clause-write_fault
returns-clause-write_fault g c = c.run_demo.ensures.ends.write_fault
