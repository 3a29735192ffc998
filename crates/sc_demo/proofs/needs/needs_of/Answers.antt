-- Off the first passes those of each maker can be split.
use Rattle.std.proofs.Common.{◌^◌, ◌+◌, ◌∙◌, ap, arith}
use Rattle.sc_cores.specs.Cores.{cores_of_map}
use Rattle.sc_server.proofs.NeedsLemmas.{fewer_splits}
use Rattle.sc_demo.proofs.NumberLemmas.{numbers}
use Rattle.sc_demo.proofs.needs.needs_of.Goals as goal

pub overflow_add-demo : goal.overflow_add-demo
overflow_add-demo c = omega (arith, (numbers c.args.demo.now c.requires).workers.1)

pub kits_of-requires-clause-new : goal.kits_of-requires-clause-new
kits_of-requires-clause-new c = record {
  are = c.in_ok-collection.ensures.passes;
  opened = c.in_ok-collection.ensures.opened;
  seen = c.in_ok-collection.ensures.seen;
}

pub kits_of-requires-clause-splits : goal.kits_of-requires-clause-splits
kits_of-requires-clause-splits c =
    let workers = (numbers c.args.demo.now c.requires).workers in
    fewer_splits (2 ^ 31) (c.args.demo.now.workers + 1) c.in_ok-collection.passes (omega (arith, workers.1)) c.in_ok-collection.ensures.splits

pub returns : goal.returns
returns c = record {
  shape = c.in_ok-collection.ensures.layout;
  passes = c.in_ok-kits_of.ensures.new;
  cores = c.in_ok-cores_of_map.ensures ∙ ap (cores_of_map 1) c.first.ensures;
  count = c.in_ok-kits_of.ensures.count;
  kits = c.in_ok-kits_of.ensures.kits;
}
