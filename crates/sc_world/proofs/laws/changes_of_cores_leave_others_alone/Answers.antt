-- The laws are the lemmas on the cores in other seats.
use Rattle.sc_world.proofs.SeatLemmas.{detaches_leave_others_alone, rejoins_leave_others_alone, leads_leave_others_alone}
use Rattle.sc_world.proofs.laws.changes_of_cores_leave_others_alone.Goals as goal

pub returns-clause-detaches : goal.returns-clause-detaches
returns-clause-detaches c = detaches_leave_others_alone

pub returns-clause-rejoins : goal.returns-clause-rejoins
returns-clause-rejoins c = rejoins_leave_others_alone

pub returns-clause-leads : goal.returns-clause-leads
returns-clause-leads c = leads_leave_others_alone
