-- Each maker has made what it was to make, and has its passes back.
use Rattle.std.proofs.Common.{arith}
use denote.Param.Send.{sendable}
use Rattle.sc_server.proofs.WorkerLemmas.{has_read}
use Rattle.sc_demo.proofs.CrossingLemmas.{maker_send}
use Rattle.sc_demo.proofs.MakerLemmas.{made_each, home_each}
use Rattle.sc_demo.specs.Makers.{IsReadyToMake}
use Rattle.sc_demo.proofs.makers.work_all.Goals as goal

pub for_each_mut-requires-send-T : goal.for_each_mut-requires-send-T
for_each_mut-requires-send-T g c κs within = search (maker_send, sendable)

pub for_each_mut-requires-clause-accepts : goal.for_each_mut-requires-clause-accepts
for_each_mut-requires-clause-accepts g c κs within =
    λ i p lt is. has_read IsReadyToMake c.args.makers.now i p.now c.requires.ready lt is

pub returns-clause-made : goal.returns-clause-made
returns-clause-made g c =
    made_each _ c.args.makers.now c.for_each_mut.new.s (omega (arith, c.for_each_mut.auto.s))
    (λ i d lt. let at = (c.for_each_mut.ensures i d lt).1 in (at.argument.now, at.after_call.now, at.argument_is, at.left, at.call))

pub returns-clause-home : goal.returns-clause-home
returns-clause-home g c =
    home_each _ c.args.makers.now c.for_each_mut.new.s (omega (arith, c.for_each_mut.auto.s))
    (λ i d lt. let at = (c.for_each_mut.ensures i d lt).1 in (at.argument.now, at.after_call.now, at.argument_is, at.left, at.call))
