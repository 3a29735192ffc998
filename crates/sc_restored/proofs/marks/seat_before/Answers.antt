-- Another entry leaves each core in its seat.
use Rattle.sc_restored.proofs.MarkLemmas.{same_seat}
use Rattle.sc_restored.proofs.marks.seat_before.Goals as goal

pub returns-in_default : goal.returns-in_default
returns-in_default c = same_seat c.args.slice c.args.entry.now c.args.at c.in_default.not-Led
