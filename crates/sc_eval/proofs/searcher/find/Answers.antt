-- What was looked up is counted as it is joined.
use Rattle.std.proofs.lemmas.Result.{IfOk-weaker}
use Rattle.sc_eval.specs.Criteria.{criterion_of}
use Rattle.sc_eval.proofs.NumberLemmas.{are-matches}
use Rattle.sc_eval.proofs.searcher.find.Goals as goal

pub returns-clause-found : goal.returns-clause-found
returns-clause-found g c =
    IfOk-weaker c.start-2.result _ _
    (λ found is. are-matches c.args.range.now (criterion_of c.args.query.now) c.args.snapshot.now.rows is.0 c.args.most found
    (c.in_ok-look_up.ensures.found.joined is.0 is.1) is.2)
    c.start-2.ensures
