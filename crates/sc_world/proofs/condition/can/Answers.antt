-- Each test is that of the event's condition.
use Rattle.std.proofs.Common.{◌↔◌, IsTrue, sym, subst}
use Rattle.sc_world.specs.declared.event.Event.{Event}
use Rattle.sc_world.specs.Steps.{Can}
use Rattle.sc_world.proofs.ConditionLemmas.{settle_test, grow_test, switch_test}
use Rattle.sc_world.proofs.condition.can.Goals as goal

pub returns-in-Settle : goal.returns-in-Settle
returns-in-Settle c =
    let b = c.args.bucket.now in
    subst (λ (event : Event). IsTrue c.contains.result ↔ Can b event) (sym c.in-Settle.is)
    (settle_test b c.in-Settle.place c.contains.result c.requires.journal c.contains.ensures)

pub returns-then-is_recovering : goal.returns-then-is_recovering
returns-then-is_recovering c =
    let b = c.args.bucket.now in
    subst (λ (event : Event). IsTrue c.is_missing.result ↔ Can b event) (sym c.in-Grow.is)
    (grow_test b c.in-Grow.core c.is_missing.result (c.is_recovering.ensures.0 c.if-is_recovering.true) c.is_missing.ensures)

pub returns-then-is_recovering-2 : goal.returns-then-is_recovering-2
returns-then-is_recovering-2 c =
    let b = c.args.bucket.now in
    subst (λ (event : Event). IsTrue c.are_whole.result ↔ Can b event) (sym c.in-Switch.is)
    (switch_test b c.are_whole.result (c.is_recovering-in-Switch.ensures.0 c.if-is_recovering-2.true) c.are_whole.ensures)
