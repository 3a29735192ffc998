-- Where the journal is full the split is refused.
use Rattle.std.proofs.Common.{[], inr, Err, refl, ap}
use Rattle.sc_world.proofs.step.begin_split.Goals as goal

pub returns-in-Err-LogFull-clause-stepped : goal.returns-in-Err-LogFull-clause-stepped
returns-in-Err-LogFull-clause-stepped c = ([], inr (refl, (c.in-Err-LogFull.ensures.refused, c.in-Err-LogFull.ensures.full.0 (ap Err c.in-Err-LogFull.field-0-is))))
