-- The workload that the arguments ask for can be made.
use Rattle.sc_arguments.proofs.RangeLemmas.{demo_in_range}
use Rattle.sc_arguments.proofs.asked.demo_in.Goals as goal

pub returns-clause-range : goal.returns-clause-range
returns-clause-range c =
    demo_in_range (record {
      seed = c.number_or.result;
      count = c.in_ok-within.field-0;
      workers = c.in_ok-within-2.field-0;
    }) c.in_ok-within.ensures.range c.in_ok-within-2.ensures.range
