-- The reply to a get is that of the journal at its stop.
use Rattle.std.proofs.lemmas.Result.{err_from_is_err_and}
use Rattle.sc_seen.specs.Moments.{moment_of}
use Rattle.sc_session.specs.Requests.{get}
use Rattle.sc_session.specs.Answering.{unread}
use Rattle.sc_session.proofs.AnswerLemmas.{with_error}
use Rattle.sc_session.proofs.ReadLemmas.{got, got_none, got_live}
use Rattle.sc_session.proofs.answer.get.Goals as goal

pub get_reply-requires : goal.get_reply-requires
get_reply-requires g c =
    got_live (g.D.Desk.layout c.args.desk.now) c.args.id.now (moment_of (g.D.Desk.seen c.args.desk.now) c.args.trail.now.stops tt)
    (moment_of (g.D.Desk.seen c.get_one.new.desk) c.get_one.new.trail.stops tt) c.in_ok-found.found c.in_ok-found.ensures.got

pub returns-in_err-found-clause-answers : goal.returns-in_err-found-clause-answers
returns-in_err-found-clause-answers g c =
    let failed = err_from_is_err_and c.from_residual.result c.from_residual.ensures.1 in
    with_error unread (g.D.Desk.layout c.args.desk.now) (get c.args.id.now) (moment_of (g.D.Desk.seen c.args.desk.now) c.args.trail.now.stops tt)
    (moment_of (g.D.Desk.seen c.get_one.new.desk) c.get_one.new.trail.stops tt) c.from_residual.result failed.0 failed.1
    (got_none (g.D.Desk.layout c.args.desk.now) c.args.id.now (moment_of (g.D.Desk.seen c.args.desk.now) c.args.trail.now.stops tt)
    (moment_of (g.D.Desk.seen c.get_one.new.desk) c.get_one.new.trail.stops tt) c.get_one.result c.get_one.ensures.got)

pub returns-clause-answers : goal.returns-clause-answers
returns-clause-answers g c =
    got (g.D.Desk.layout c.args.desk.now) c.args.id.now (moment_of (g.D.Desk.seen c.args.desk.now) c.args.trail.now.stops tt)
    (moment_of (g.D.Desk.seen c.get_one.new.desk) c.get_one.new.trail.stops tt) c.in_ok-found.found c.get_reply.result
    c.in_ok-found.ensures.got c.get_reply.ensures.reply
