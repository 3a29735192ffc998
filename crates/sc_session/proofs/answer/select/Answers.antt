-- The reply to a search is that of the journals at its stops.
use Rattle.std.proofs.Common.{List, Result, Err, IfOk, refl, ap, ◌∙◌, subst}
use Rattle.sc_eval.specs.declared.bound.Bound.{Bound}
use Rattle.sc_eval.specs.declared.fault.BindFault.{BindFault}
use Rattle.sc_eval.specs.Criteria.{criterion_of}
use Rattle.std.proofs.lemmas.Result.{err_from_is_err_and}
use Rattle.sc_seen.specs.Moments.{moment_of}
use Rattle.sc_session.specs.Requests.{select}
use Rattle.sc_fanout.specs.declared.ask.Ask.{Ask}
use Rattle.sc_session.specs.Queries.{HaveCriterion, HaveFault}
use Rattle.sc_session.specs.Answering.{unread, answer_of}
use Rattle.sc_session.specs.Asking.{select_of}
use Rattle.sc_session.proofs.AnswerLemmas.{with_error, query_refused}
use Rattle.sc_session.proofs.ReadLemmas.{searched, searched_none, page_live}
use Rattle.sc_session.proofs.answer.select.Goals as goal

pub returns-in-Err-clause-answers : goal.returns-in-Err-clause-answers
returns-in-Err-clause-answers g c =
    query_refused (g.D.Desk.layout c.args.desk.now) (select_of c.args.asked.now) c.in-Err.fault (moment_of (g.D.Desk.seen c.args.desk.now) c.args.trail.now.stops tt)
    (answer_of c.query_refusal.result)
    (λ at is. subst (λ (texts : List _). HaveFault texts at) c.as_slice.ensures (c.criterion.ensures.fault at (c.in-Err.is ∙ ap Err is)))
    c.query_refusal.ensures.reply

pub select_body-requires : goal.select_body-requires
select_body-requires g c =
    let layout = g.D.Desk.layout c.args.desk.now in
    let old = moment_of (g.D.Desk.seen c.args.desk.now) c.args.trail.now.stops tt in
    let new = moment_of (g.D.Desk.seen c.search.new.desk) c.search.new.trail.stops tt in
    let ask : Ask = record { query = c.in-Ok.query; route = c.range_of.result; start = c.args.asked.now.start; rows = c.args.asked.now.rows } in
    page_live layout old new ask c.in_ok-page.page
    c.in_ok-page.ensures.searched

pub returns-in_err-page-clause-answers : goal.returns-in_err-page-clause-answers
returns-in_err-page-clause-answers g c =
    let asked = c.args.asked.now in
    let ask : Ask = record { query = c.in-Ok.query; route = c.range_of.result; start = asked.start; rows = asked.rows } in
    let failed = err_from_is_err_and c.from_residual.result c.from_residual.ensures.1 in
    with_error unread (g.D.Desk.layout c.args.desk.now) (select (select_of asked)) (moment_of (g.D.Desk.seen c.args.desk.now) c.args.trail.now.stops tt)
    (moment_of (g.D.Desk.seen c.search.new.desk) c.search.new.trail.stops tt) c.from_residual.result failed.0 failed.1
    (searched_none (g.D.Desk.layout c.args.desk.now) (select_of asked) ask (moment_of (g.D.Desk.seen c.args.desk.now) c.args.trail.now.stops tt)
    (moment_of (g.D.Desk.seen c.search.new.desk) c.search.new.trail.stops tt) c.search.result c.search.ensures.searched)

pub returns-in_err-select_body-clause-answers : goal.returns-in_err-select_body-clause-answers
returns-in_err-select_body-clause-answers g c =
    let asked = c.args.asked.now in
    let ask : Ask = record { query = c.in-Ok.query; route = c.range_of.result; start = asked.start; rows = asked.rows } in
    let failed = err_from_is_err_and c.from_residual-in_err-select_body.result c.from_residual-in_err-select_body.ensures.1 in
    with_error unread (g.D.Desk.layout c.args.desk.now) (select (select_of asked)) (moment_of (g.D.Desk.seen c.args.desk.now) c.args.trail.now.stops tt)
    (moment_of (g.D.Desk.seen c.search.new.desk) c.search.new.trail.stops tt) c.from_residual-in_err-select_body.result failed.0 failed.1
    (searched_none (g.D.Desk.layout c.args.desk.now) (select_of asked) ask (moment_of (g.D.Desk.seen c.args.desk.now) c.args.trail.now.stops tt)
    (moment_of (g.D.Desk.seen c.search.new.desk) c.search.new.trail.stops tt) c.search.result c.search.ensures.searched)

pub returns-clause-answers : goal.returns-clause-answers
returns-clause-answers g c =
    let layout = g.D.Desk.layout c.args.desk.now in
    let old = moment_of (g.D.Desk.seen c.args.desk.now) c.args.trail.now.stops tt in
    let new = moment_of (g.D.Desk.seen c.search.new.desk) c.search.new.trail.stops tt in
    let asked = c.args.asked.now in
    let ask : Ask = record { query = c.in-Ok.query; route = c.range_of.result; start = asked.start; rows = asked.rows } in
    let asks : HaveCriterion asked.queries (criterion_of c.in-Ok.query) =
    subst (λ (texts : List _). HaveCriterion texts (criterion_of c.in-Ok.query)) c.as_slice.ensures
    (subst (λ (found : Result Bound BindFault). IfOk found (λ found. HaveCriterion c.as_slice.result.now (criterion_of found))) c.in-Ok.is c.criterion.ensures.criterion) in
    rw c.made.ensures
    (searched layout (select_of asked) ask old new c.in_ok-page.page c.in_ok-select_body.field-0 asks c.range_of.ensures refl refl
    c.in_ok-page.ensures.searched
    c.in_ok-select_body.ensures)
