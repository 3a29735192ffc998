-- A core that a write is applied to is one.
use Rattle.std.specs.Arc.{arc_value}
use Rattle.sc_replica.proofs.CoreLemmas.{IsCore-fed}
use Rattle.sc_replica.proofs.replica.Replica.feed.Goals as goal

pub invariant_of-self : goal.invariant_of-self
invariant_of-self c = rw (c.apply.ensures.cells, c.apply.ensures.clock) (IsCore-fed _ (arc_value c.args.write) c.self.invariant)

pub returns-clause-core : goal.returns-clause-core
returns-clause-core c = rw (c.apply.ensures.cells, c.apply.ensures.clock) (IsCore-fed _ (arc_value c.args.write) c.self.invariant)
