-- White space, a semicolon or CR comes after the size.
use Rattle.std.proofs.Common.{arith}
use Rattle.std.proofs.lemmas.Bool.Decides.{nat_tests}
use Rattle.sc_chunks.proofs.LineStepLemmas.{bad_after_size, space_taken, semicolon_taken, return_taken}
use Rattle.sc_chunks.proofs.line.after_size.Goals as goal

pub returns-in-32 : goal.returns-in-32
returns-in-32 c coded content l none stops = space_taken coded content c.args.size c.args.byte l none (grind (arith, nat_tests, c.in-32.is))

pub returns-in-59 : goal.returns-in-59
returns-in-59 c coded content l none stops = semicolon_taken coded content c.args.size c.args.byte l none c.in-59.is

pub returns-in-13 : goal.returns-in-13
returns-in-13 c coded content l none stops = return_taken coded content c.args.size c.args.byte l c.in-13.is

pub returns-in_default : goal.returns-in_default
returns-in_default c coded content l none stops = bad_after_size coded content c.args.size c.args.byte l none stops (grind (arith, nat_tests, c.in_default)) (grind (arith, c.in_default)) (grind (arith, c.in_default))
