-- Only LF comes after the CR.
use Rattle.std.proofs.Common.{arith}
use Rattle.sc_chunks.proofs.DataStepLemmas.{data_ended, no_feed_after_data}
use Rattle.sc_chunks.proofs.step.after_data_return.Goals as goal

pub returns-in-10 : goal.returns-in-10
returns-in-10 c coded content r = data_ended coded content c.args.byte r c.in-10.is

pub returns-in_default : goal.returns-in_default
returns-in_default c coded content r = no_feed_after_data coded content c.args.byte r (grind (arith, c.in_default))
