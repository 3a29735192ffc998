-- What a server's status is not, and when it is that of a sink that failed.
use Rattle.solr_split.proofs.ServerLemmas.{not_refused, not_read_fault}
use Rattle.solr_split.proofs.run.run_workers.Goals as goal

pub returns-clause-status : goal.returns-clause-status
returns-clause-status g c =
    let end = c.run_server.ensures.ends.end in
    (not_refused _ c.args.server.now _ _ end, not_read_fault _ c.args.server.now _ _ end)

pub returns-clause-write_fault : goal.returns-clause-write_fault
returns-clause-write_fault g c = c.run_server.ensures.ends.write_fault
