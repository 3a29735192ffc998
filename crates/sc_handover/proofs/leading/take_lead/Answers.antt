-- Once all is delivered to the follower it may take the lead still, and both together are the event.
use Rattle.sc_handover.proofs.GrowLemmas.{none_to_leader}
use Rattle.sc_handover.proofs.LeadLemmas.{CanLead-delivered, TakesLead-changed}
use Rattle.sc_handover.proofs.leading.take_lead.Goals as goal

pub change_seats-requires-clause-can : goal.change_seats-requires-clause-can
change_seats-requires-clause-can c =
    CanLead-delivered c.args.bucket.now c.deliver_all_to.new.self c.args.core c.deliver_all_to.ensures.delivered c.requires.can

pub change_seats-requires-clause-delivered : goal.change_seats-requires-clause-delivered
change_seats-requires-clause-delivered c =
    none_to_leader c.args.bucket.now c.deliver_all_to.new.self c.args.core c.deliver_all_to.ensures.delivered

pub returns-clause-led : goal.returns-clause-led
returns-clause-led c =
    TakesLead-changed c.args.bucket.now c.deliver_all_to.new.self c.change_seats.new.bucket c.args.core c.requires.sound
    c.requires.can.follower c.deliver_all_to.ensures.delivered c.change_seats.ensures.changed
