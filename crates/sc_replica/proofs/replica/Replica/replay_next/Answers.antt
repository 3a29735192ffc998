-- With one write less in its buffer, and that applied, it is a core.
use Rattle.std.proofs.Common.{◌≡◌, map}
use Rattle.std.specs.Arc.{arc_value}
use Rattle.sc_ulog.specs.declared.mode.Mode.TheVariants.{Active, Replaying}
use Rattle.sc_replica.proofs.CoreLemmas.{IsCore-fed, IsCore-left}
use Rattle.sc_replica.proofs.replica.Replica.replay_next.Goals as goal

pub invariant_of-self : goal.invariant_of-self
invariant_of-self c =
    let replaying : c.self.inside.log.mode ≡ Replaying = rw (← c.self.view_is) at c.requires.replaying in
    rw (c.apply.ensures.cells, c.apply.ensures.clock, c.next.ensures.others)
    (IsCore-left _ (map arc_value c.next.new.self.entries) (λ (active : c.self.inside.log.mode ≡ Active). cc) (IsCore-fed _ (arc_value c.in-Some.write) c.self.invariant))
