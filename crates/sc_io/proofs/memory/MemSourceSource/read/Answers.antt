-- The bytes copied are the next ones of the list.
use Rattle.std.proofs.Common.{arith, drop}
use Rattle.std.proofs.lemmas.Grind.{common_steps}
use Rattle.sc_io.proofs.TakenLemmas.{takes_next}
use Rattle.sc_io.proofs.memory.MemSourceSource.read.Goals as goal

pub returns-clause-taken : goal.returns-clause-taken
returns-clause-taken c =
    takes_next c.args.self.now.bytes c.copy_from_slice.new.self (drop c.min-count.result c.args.into.now) c.args.self.now.at c.min-count.result
    (grind (arith, common_steps)) (grind (arith, common_steps))
