-- What was not joined yet is joined.
use Rattle.std.proofs.lemmas.Result.{IfOk-weaker}
use Rattle.sc_eval.specs.Numbers.{numbers_of}
use Rattle.sc_eval.proofs.matching.matching.Goals as goal

pub returns-clause-numbers : goal.returns-clause-numbers
returns-clause-numbers g c =
    IfOk-weaker c.joined.result _ _
    (λ found is. c.in_ok-unjoined.ensures.numbers.joined (numbers_of found) is)
    c.joined.ensures
