-- The numbers of the workload are in their ranges.
use Rattle.std.proofs.Common.{subst}
use Rattle.sc_demo.specs.Making.{IsTaskOf}
use Rattle.sc_demo.proofs.NumberLemmas.{numbers}
use Rattle.sc_demo.proofs.maker.make.Goals as goal

pub write-requires-clause-share : goal.write-requires-clause-share
write-requires-clause-share g c =
    let are = numbers c.args.demo.now c.requires.demo in
    record {
      least = are.count.0;
      most = are.count.1;
      worker = subst (IsTaskOf c.args.demo.now) c.in-Write.is c.requires.task;
      workers = are.workers.1;
    }
