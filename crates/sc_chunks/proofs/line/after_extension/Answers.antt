-- An extension goes on until CR.
use Rattle.std.proofs.Common.{arith}
use Rattle.std.proofs.lemmas.Bool.Decides.{nat_tests}
use Rattle.sc_chunks.proofs.LineStepLemmas.{feed_in_extension, extension_taken, return_taken}
use Rattle.sc_chunks.proofs.line.after_extension.Goals as goal

pub returns-in-13 : goal.returns-in-13
returns-in-13 c coded content e = return_taken coded content c.args.size c.args.byte e.0 c.in-13.is

pub returns-in-10 : goal.returns-in-10
returns-in-10 c coded content e = feed_in_extension coded content c.args.size c.args.byte e c.in-10.is

pub returns-in_default : goal.returns-in_default
returns-in_default c coded content e = extension_taken coded content c.args.size c.args.byte e (grind (arith, nat_tests, c.in_default))
