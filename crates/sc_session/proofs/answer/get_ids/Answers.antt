-- The reply to a get of several ids is that of the journals at its stops.
use Rattle.std.proofs.lemmas.Result.{err_from_is_err_and}
use Rattle.sc_seen.specs.Moments.{moment_of}
use Rattle.sc_session.specs.Requests.{get_ids}
use Rattle.sc_session.specs.Answering.{unread}
use Rattle.sc_session.proofs.AnswerLemmas.{with_error}
use Rattle.sc_session.proofs.ReadLemmas.{are_got, are_got_none, are_got_live}
use Rattle.sc_session.proofs.answer.get_ids.Goals as goal

pub ids_body-requires : goal.ids_body-requires
ids_body-requires g c =
    are_got_live (g.D.Desk.layout c.args.desk.now) c.args.ids.now (moment_of (g.D.Desk.seen c.args.desk.now) c.args.trail.now.stops tt)
    (moment_of (g.D.Desk.seen c.get_many.new.desk) c.get_many.new.trail.stops tt) c.in_ok-found.found c.in_ok-found.ensures.got

pub returns-in_err-found-clause-answers : goal.returns-in_err-found-clause-answers
returns-in_err-found-clause-answers g c =
    let failed = err_from_is_err_and c.from_residual.result c.from_residual.ensures.1 in
    with_error unread (g.D.Desk.layout c.args.desk.now) (get_ids c.args.ids.now) (moment_of (g.D.Desk.seen c.args.desk.now) c.args.trail.now.stops tt)
    (moment_of (g.D.Desk.seen c.get_many.new.desk) c.get_many.new.trail.stops tt) c.from_residual.result failed.0 failed.1
    (are_got_none (g.D.Desk.layout c.args.desk.now) c.args.ids.now (moment_of (g.D.Desk.seen c.args.desk.now) c.args.trail.now.stops tt)
    (moment_of (g.D.Desk.seen c.get_many.new.desk) c.get_many.new.trail.stops tt) c.get_many.result c.get_many.ensures.got)

pub returns-in_err-ids_body-clause-answers : goal.returns-in_err-ids_body-clause-answers
returns-in_err-ids_body-clause-answers g c =
    let failed = err_from_is_err_and c.from_residual-in_err-ids_body.result c.from_residual-in_err-ids_body.ensures.1 in
    with_error unread (g.D.Desk.layout c.args.desk.now) (get_ids c.args.ids.now) (moment_of (g.D.Desk.seen c.args.desk.now) c.args.trail.now.stops tt)
    (moment_of (g.D.Desk.seen c.get_many.new.desk) c.get_many.new.trail.stops tt) c.from_residual-in_err-ids_body.result failed.0 failed.1
    (are_got_none (g.D.Desk.layout c.args.desk.now) c.args.ids.now (moment_of (g.D.Desk.seen c.args.desk.now) c.args.trail.now.stops tt)
    (moment_of (g.D.Desk.seen c.get_many.new.desk) c.get_many.new.trail.stops tt) c.get_many.result c.get_many.ensures.got)

pub returns-clause-answers : goal.returns-clause-answers
returns-clause-answers g c =
    rw c.made.ensures
    (are_got (g.D.Desk.layout c.args.desk.now) c.args.ids.now (moment_of (g.D.Desk.seen c.args.desk.now) c.args.trail.now.stops tt)
    (moment_of (g.D.Desk.seen c.get_many.new.desk) c.get_many.new.trail.stops tt) c.in_ok-found.found c.in_ok-ids_body.field-0
    c.in_ok-found.ensures.got c.in_ok-ids_body.ensures)
