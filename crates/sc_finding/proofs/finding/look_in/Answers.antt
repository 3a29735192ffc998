-- In no rows nothing is found. What was looked up in the rows of a snapshot was looked up in those of its searcher, and in as many steps.
use Rattle.std.proofs.Common.{◌≡◌, ◌-◌, List, ap, subst, rules}
use Rattle.std.proofs.lemmas.Result.{IfOk-weaker}
use Rattle.sc_record.specs.Writes.{Write}
use Rattle.sc_snapshot.specs.Rows.{SnapshotState}
use Rattle.sc_eval.specs.Criteria.{criterion_of}
use Rattle.sc_eval.specs.Matching.{finds}
use Rattle.sc_eval.specs.Numbers.{AreStepsOfSearch}
use Rattle.sc_eval.specs.Unjoined.{WillBeNumbersOf}
use Rattle.sc_replicas.specs.Searchers.{searcher_rows}
use Rattle.sc_finding.proofs.LookedLemmas.{none-looked}
use Rattle.sc_finding.proofs.StepLemmas.{none-taken}
use Rattle.sc_finding.proofs.finding.look_in.Goals as goal

pub returns-then-rows-eq0-clause-found : goal.returns-then-rows-eq0-clause-found
returns-then-rows-eq0-clause-found g c =
    none-looked (finds c.args.searcher.now.range (criterion_of c.args.query.now)) (searcher_rows c.args.searcher.now) _ (search rules) (search rules)

pub returns-then-rows-eq0-clause-bound : goal.returns-then-rows-eq0-clause-bound
returns-then-rows-eq0-clause-bound g c =
    none-taken (criterion_of c.args.query.now) c.args.searcher.now c.args.steps.now _ (search rules)

pub returns-clause-found : goal.returns-clause-found
returns-clause-found g c =
    let same : c.deref-2.result.now.rows ≡ searcher_rows c.args.searcher.now = ap (λ (s : SnapshotState). s.rows) c.deref-2.ensures in
    IfOk-weaker c.look_up.result _ _
    (λ unjoined will. subst (λ (rows : List Write). WillBeNumbersOf (finds c.args.searcher.now.range (criterion_of c.args.query.now)) rows unjoined) same will)
    c.look_up.ensures.found

pub returns-clause-bound : goal.returns-clause-bound
returns-clause-bound g c =
    let same : c.deref-2.result.now.rows ≡ searcher_rows c.args.searcher.now = ap (λ (s : SnapshotState). s.rows) c.deref-2.ensures in
    subst (λ (rows : List Write). AreStepsOfSearch (criterion_of c.args.query.now) rows (c.look_up.new.steps - c.args.steps.now)) same c.look_up.ensures.bound
