-- Only CR comes after data.
use Rattle.std.proofs.Common.{arith}
use Rattle.sc_chunks.proofs.DataStepLemmas.{data_returned, no_return_after_data}
use Rattle.sc_chunks.proofs.step.after_data.Goals as goal

pub returns-in-13 : goal.returns-in-13
returns-in-13 c coded content chunk = data_returned coded content c.args.byte chunk c.in-13.is

pub returns-in_default : goal.returns-in_default
returns-in_default c coded content chunk = no_return_after_data coded content c.args.byte chunk (grind (arith, c.in_default))
