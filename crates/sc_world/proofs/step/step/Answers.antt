-- What each call says is the row of its event.
use Rattle.std.proofs.Common.{[], inl, refl, sym, subst, OnOk}
use Rattle.sc_world.specs.declared.event.Event.{Event}
use Rattle.sc_world.specs.Steps.{Can}
use Rattle.sc_world.specs.Runs.{IsStepped}
use Rattle.sc_world.proofs.StepLemmas.{deliver_nth_step, deliver_step, grow_step}
use Rattle.sc_world.proofs.step.step.Goals as goal

pub returns-in-Accept-clause-stepped : goal.returns-in-Accept-clause-stepped
returns-in-Accept-clause-stepped c =
    subst (λ (event : Event). OnOk c.accept_order.result (IsStepped c.args.bucket.now event c.accept_order.new.bucket))
    (sym c.in-Accept.is) c.accept_order.ensures.stepped

pub returns-in-DeliverNth-clause-stepped : goal.returns-in-DeliverNth-clause-stepped
returns-in-DeliverNth-clause-stepped c =
    let b = c.args.bucket.now in
    subst (λ (event : Event). IsStepped b event c.deliver_nth-core.new.self) (sym c.in-DeliverNth.is)
    (deliver_nth_step b c.deliver_nth-core.new.self c.in-DeliverNth.k c.deliver_nth-core.result c.deliver_nth-core.ensures.delivered)

pub returns-in-Deliver-clause-stepped : goal.returns-in-Deliver-clause-stepped
returns-in-Deliver-clause-stepped c =
    let b = c.args.bucket.now in
    subst (λ (event : Event). IsStepped b event c.deliver-core.new.self) (sym c.in-Deliver.is)
    (deliver_step b c.deliver-core.new.self c.in-Deliver.place c.deliver-core.result c.deliver-core.ensures.delivered)

pub returns-in-Ready-clause-stepped : goal.returns-in-Ready-clause-stepped
returns-in-Ready-clause-stepped c =
    let b = c.args.bucket.now in
    let can = subst (Can b) c.in-Ready.is c.requires.can in
    subst (λ (event : Event). IsStepped b event c.ready.new.bucket) (sym c.in-Ready.is)
    ([], inl (refl, (can.0, can.1, c.ready.ensures.ready can.0 can.1)))

pub returns-in-Grow-clause-stepped : goal.returns-in-Grow-clause-stepped
returns-in-Grow-clause-stepped c =
    let b = c.args.bucket.now in
    subst (λ (event : Event). OnOk c.grow.result (IsStepped b event c.grow.new.bucket)) (sym c.in-Grow.is)
    (grow_step b c.grow.new.bucket c.in-Grow.core c.grow.result (subst (Can b) c.in-Grow.is c.requires.can) c.grow.ensures.grown)

pub returns-in-Switch-clause-stepped : goal.returns-in-Switch-clause-stepped
returns-in-Switch-clause-stepped c =
    let b = c.args.bucket.now in
    let can = subst (Can b) c.in-Switch.is c.requires.can in
    subst (λ (event : Event). IsStepped b event c.switch.new.bucket) (sym c.in-Switch.is)
    ([], inl (refl, (can.0, can.1, c.switch.ensures.switched can.0 can.1, c.switch.ensures.last)))

pub returns-in-Abort-clause-stepped : goal.returns-in-Abort-clause-stepped
returns-in-Abort-clause-stepped c =
    let b = c.args.bucket.now in
    let can = subst (Can b) c.in-Abort.is c.requires.can in
    subst (λ (event : Event). IsStepped b event c.abort.new.bucket) (sym c.in-Abort.is)
    ([], inl (refl, (can.0, can.1, c.abort.ensures.aborted can.0 can.1)))
