-- Off the first passes those of each worker can be split.
use Rattle.std.proofs.Common.{◌^◌, arith}
use Rattle.sc_server.proofs.NeedsLemmas.{numbers, fewer_splits}
use Rattle.sc_server.proofs.needs.needs_of.Goals as goal

pub kits_of-requires-clause-splits : goal.kits_of-requires-clause-splits
kits_of-requires-clause-splits c =
    let workers = (numbers c.args.server.now c.requires).workers in
    fewer_splits (2 ^ 31) c.args.server.now.workers c.in_ok-collection.passes (omega (arith, workers.1)) c.in_ok-collection.ensures.splits
