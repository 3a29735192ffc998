use Rattle.std.proofs.Common.{arith}
use Rattle.std.proofs.lemmas.Option.{IfSome_then}
use Rattle.sc_tail.proofs.ReadLemmas.{read_after}
use Rattle.sc_tail.proofs.reading.read_more.Goals as goal

pub returns-clause-filled : goal.returns-clause-filled
returns-clause-filled g c =
    IfSome_then (g.F.LogFile.state c.args.file.now).seen c.in_ok-count.ensures.taken
    (λ bytes reads same. read_after bytes c.args.into.now c.read.new.into _ c.args.at c.args.done c.in_ok-count.count (omega arith) c.in_ok-count.ensures.bounded reads same)
