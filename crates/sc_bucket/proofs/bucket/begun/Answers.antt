-- The parts are those that were given, and new ones.
use Rattle.std.proofs.Common.{None}
use Rattle.sc_bucket.specs.declared.phase.Phase.TheVariants as phases
use Rattle.sc_bucket.proofs.bucket.begun.Goals as goal

pub returns : goal.returns
returns c = λ i. record {
  first = c.args.first;
  map = c.args.map;
  journal = c.args.journal;
  unsettled = c.new.ensures i;
  replicas = c.args.replicas;
  flight = c.new-2.ensures i;
  searchers = c.args.searchers;
  phase = phases.Idle;
  feeds = c.new-3.ensures i;
  spares = None;
  owed = c.args.owed;
  limit = c.args.limit;
}
