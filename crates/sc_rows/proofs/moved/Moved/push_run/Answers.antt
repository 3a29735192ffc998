-- The new numbers that there were, and those of the run after them.
use Rattle.sc_rows.proofs.MovedLemmas.{run-pushed}
use Rattle.sc_rows.proofs.moved.Moved.push_run.Goals as goal

pub returns : goal.returns
returns c =
    run-pushed c.args.self.now c.self.inside.numbers.items c.put_run.new.list.items c.args.first c.args.count c.self.view_is c.in_ok-put_run.ensures c.requires
