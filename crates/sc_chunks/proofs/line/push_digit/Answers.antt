-- A digit more gives the size, or keeps it too much.
use Rattle.std.proofs.Common.{arith}
use Rattle.sc_chunks.proofs.LineStepLemmas.{size_kept, size_pushed}
use Rattle.sc_chunks.proofs.line.push_digit.Goals as goal

pub returns-then-size-gt-MAX_DATA : goal.returns-then-size-gt-MAX_DATA
returns-then-size-gt-MAX_DATA c digits byte so_far value = size_kept c.args.size digits byte so_far (omega (arith, c.if-size-gt-MAX_DATA.true))

pub returns-else-size-gt-MAX_DATA : goal.returns-else-size-gt-MAX_DATA
returns-else-size-gt-MAX_DATA c digits byte so_far value = size_pushed c.args.size c.args.digit digits byte so_far (omega (arith, c.if-size-gt-MAX_DATA.false)) value
