-- The one number is that of the row of the id.
use Rattle.sc_snapshot.proofs.IdSearchLemmas.{found-alone}
use Rattle.sc_snapshot.proofs.ids.row_of_id.Goals as goal

pub returns-in-Some-clause-members : goal.returns-in-Some-clause-members
returns-in-Some-clause-members g c = λ number.
    found-alone c.args.rows.now c.args.live.now c.requires.live c.requires.ascend c.args.id.now c.in-Some.at c.in-Some.ensures.place number
