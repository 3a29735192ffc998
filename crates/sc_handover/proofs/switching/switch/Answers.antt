-- Once all is delivered to the cores of the subs, a switch may come still.
use Rattle.sc_handover.proofs.SwitchLemmas.{CanSwitch-settled}
use Rattle.sc_handover.proofs.switching.switch.Goals as goal

pub put_switch-requires-clause-can : goal.put_switch-requires-clause-can
put_switch-requires-clause-can c =
    CanSwitch-settled c.args.bucket.now c.deliver_to_subs.new.bucket c.requires.can.0 c.in-Recovering.parent c.requires.can.1
    c.in-Recovering.is c.deliver_to_subs.ensures.delivered
