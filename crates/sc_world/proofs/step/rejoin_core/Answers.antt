-- Where the journal is full the core does not rejoin.
use Rattle.std.proofs.Common.{[], inr, Err, refl, ap}
use Rattle.sc_world.proofs.step.rejoin_core.Goals as goal

pub returns-in-Err-LogFull-clause-stepped : goal.returns-in-Err-LogFull-clause-stepped
returns-in-Err-LogFull-clause-stepped c = ([], inr (refl, (c.in-Err-LogFull.ensures.refused, c.in-Err-LogFull.ensures.full.0 (ap Err c.in-Err-LogFull.field-0-is))))
