-- A core that applies what it is sent is one.
use Rattle.std.proofs.Common.{sym}
use Rattle.std.specs.Arc.{arc_value}
use Rattle.sc_replica.proofs.CoreLemmas.{IsCore-fed, received-applied}
use Rattle.sc_replica.proofs.replica.Replica.receive.Goals as goal

pub invariant_of-self-in-Active : goal.invariant_of-self-in-Active
invariant_of-self-in-Active c = rw (c.apply.ensures.cells, c.apply.ensures.clock) (IsCore-fed _ (arc_value c.args.write) c.self.invariant)

pub returns-in-Active : goal.returns-in-Active
returns-in-Active c = record {
  value = rw (← c.self.view_is, c.apply.ensures.cells, c.apply.ensures.clock)
      (sym (received-applied _ (arc_value c.args.write) (rw c.mode.ensures.mode at c.in-Active.is)));
  core = rw (c.apply.ensures.cells, c.apply.ensures.clock) (IsCore-fed _ (arc_value c.args.write) c.self.invariant);
}
