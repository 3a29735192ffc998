-- Each worker has done what it promises, and has its passes back.
use Rattle.std.proofs.Common.{arith}
use denote.Param.Send.{sendable}
use Rattle.sc_server.proofs.CrossingLemmas.{worker_send}
use Rattle.sc_server.proofs.WorkerLemmas.{has_read, worked_each, ready_each}
use Rattle.sc_server.specs.Working.{IsReadyToWork}
use Rattle.sc_server.proofs.server.work_all.Goals as goal

pub for_each_mut-requires-send-T : goal.for_each_mut-requires-send-T
for_each_mut-requires-send-T g c κs within = search (worker_send, sendable)

pub for_each_mut-requires-clause-accepts : goal.for_each_mut-requires-clause-accepts
for_each_mut-requires-clause-accepts g c κs within =
    λ i p lt is. (has_read IsReadyToWork c.args.workers.now i p.now c.requires.ready lt is, search sendable)

pub returns-clause-worked : goal.returns-clause-worked
returns-clause-worked g c =
    worked_each _ c.args.workers.now c.for_each_mut.new.s (omega (arith, c.for_each_mut.auto.s))
    (λ i d lt. let at = (c.for_each_mut.ensures i d lt).1 in (at.argument.now, at.after_call.now, at.argument_is, at.left, at.call))

pub returns-clause-ready : goal.returns-clause-ready
returns-clause-ready g c =
    ready_each _ c.args.workers.now c.for_each_mut.new.s (omega (arith, c.for_each_mut.auto.s))
    (λ i d lt. let at = (c.for_each_mut.ensures i d lt).1 in (at.argument.now, at.after_call.now, at.argument_is, at.left, at.call))
