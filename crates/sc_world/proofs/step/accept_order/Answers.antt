-- An order that is answered is a step, but where memory ran out.
use Rattle.std.proofs.Common.{◌∙◌, sym}
use Rattle.sc_world.proofs.StepLemmas.{accept_step, accept_out}
use Rattle.sc_world.proofs.step.accept_order.Goals as goal

pub returns-then-is_out_of_memory-clause-out : goal.returns-then-is_out_of_memory-clause-out
returns-then-is_out_of_memory-clause-out c =
    accept_out c.args.bucket.now c.accept-answered.new.self c.args.order.now c.args.now c.accept-answered.result
    (sym c.is_out_of_memory.ensures ∙ c.if-is_out_of_memory.true) c.accept-answered.ensures.refused c.accept-answered.ensures.outcome

pub returns-clause-stepped : goal.returns-clause-stepped
returns-clause-stepped c =
    accept_step c.args.bucket.now c.accept-answered.new.self c.args.order.now c.args.now c.accept-answered.result
    (sym c.is_out_of_memory.ensures ∙ c.if-is_out_of_memory.false) c.accept-answered.ensures.accepted c.accept-answered.ensures.refused
    c.accept-answered.ensures.outcome
