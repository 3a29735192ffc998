-- A core that leads is one.
use Rattle.std.specs.Arc.{arc_value}
use Rattle.sc_replica.proofs.CoreLemmas.{IsCore-led}
use Rattle.sc_replica.proofs.replica.Replica.lead.Goals as goal

pub invariant_of-self : goal.invariant_of-self
invariant_of-self c =
    rw (c.put.ensures.cells, c.put.ensures.clock) (IsCore-led _ (arc_value c.args.write) c.self.invariant (rw (← c.self.view_is) at c.requires.above))

pub returns-clause-core : goal.returns-clause-core
returns-clause-core c =
    rw (c.put.ensures.cells, c.put.ensures.clock) (IsCore-led _ (arc_value c.args.write) c.self.invariant (rw (← c.self.view_is) at c.requires.above))
