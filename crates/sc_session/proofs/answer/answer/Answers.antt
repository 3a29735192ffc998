-- Each request is answered by what it asks for.
use Rattle.std.proofs.Common.{◌≡◌, length, sym, ap, ◌∙◌, subst}
use Rattle.std.proofs.lemmas.Result.{err_from_is_err_and}
use Rattle.sc_reply.specs.Causes as causes
use Rattle.sc_commands.specs.Updates.{update_of}
use Rattle.sc_session.specs.Requests.{Asked, asked, refused, update, get, get_ids, select, command}
use Rattle.sc_split.specs.Splits.{split_moment}
use Rattle.sc_admin.specs.Commands.{pieces_of, split, status, delete}
use Rattle.sc_session.specs.declared.asked.Asked.TheVariants as asks
use Rattle.sc_session.specs.Asking.{asked_by_request, select_of, IsWithinLimits}
use Rattle.sc_session.specs.Answering.{AnswersAsked, answer_of}
use Rattle.sc_cores.specs.Cores.{outside_of}
use Rattle.sc_seen.specs.Moments.{view_of, moment_of}
use Rattle.sc_update.specs.Updated.{update_moment}
use Rattle.sc_session.proofs.AnswerLemmas.{with_error, ran_out_at_once, refused_at_once, by_no_clock}
use Rattle.sc_session.proofs.CommandLemmas.{world_at, of_buckets, status_answered, split_answered, deletion_answered}
use Rattle.sc_session.proofs.UpdateLemmas.{batch_room, of_order, updated_asked}
use Rattle.sc_session.proofs.answer.answer.Goals as goal

pub update-end-requires-clause-room : goal.update-end-requires-clause-room
update-end-requires-clause-room g c =
    batch_room (length c.args.trail.now.stops) c.in-Update.batch (g.D.Desk.layout c.args.desk.now).buckets c.requires.room
    (subst IsWithinLimits c.in-Update.is c.in_ok-refused.ensures.limits) c.requires.buckets

pub update_reply-requires : goal.update_reply-requires
update_reply-requires g c =
    of_order g.C.Clock.gives (g.D.Desk.layout c.args.desk.now) c.in-Update.batch
    (update_moment (g.D.Desk.seen c.args.desk.now) c.args.trail.now.stops c.args.clock.now (g.H.Hosts.reached c.args.hosts.now))
    (update_moment (g.D.Desk.seen c.update-end.new.desk) c.update-end.new.trail.stops c.update-end.new.clock (g.H.Hosts.reached c.update-end.new.hosts)) c.update-end.result c.update-end.ensures.updated

pub returns-in_err-refused-clause-answers : goal.returns-in_err-refused-clause-answers
returns-in_err-refused-clause-answers g c =
    let gives = g.C.Clock.gives in
    let layout = g.D.Desk.layout c.args.desk.now in
    let now = moment_of (g.D.Desk.seen c.args.desk.now) c.args.trail.now.stops c.args.clock.now in
    let outside = outside_of (g.H.Hosts.started c.args.hosts.now) (g.H.Hosts.start_faults c.args.hosts.now) (g.H.Hosts.stop_faults c.args.hosts.now) (g.P.Pace.stops c.args.pace.now) (g.H.Hosts.reached c.args.hosts.now) in
    let failed = err_from_is_err_and c.from_residual.result c.from_residual.ensures.1 in
    of_buckets gives layout (asked c.args.request) now now outside (answer_of c.from_residual.result)
    (with_error gives layout (asked c.args.request) now now c.from_residual.result failed.0 failed.1 (ran_out_at_once gives layout (asked c.args.request) now))

pub returns-in-Refused-clause-answers : goal.returns-in-Refused-clause-answers
returns-in-Refused-clause-answers g c =
    let gives = g.C.Clock.gives in
    let layout = g.D.Desk.layout c.args.desk.now in
    let now = moment_of (g.D.Desk.seen c.args.desk.now) c.args.trail.now.stops c.args.clock.now in
    let outside = outside_of (g.H.Hosts.started c.args.hosts.now) (g.H.Hosts.start_faults c.args.hosts.now) (g.H.Hosts.stop_faults c.args.hosts.now) (g.P.Pace.stops c.args.pace.now) (g.H.Hosts.reached c.args.hosts.now) in
    let refusal = causes.refusal_of c.cause.result in
    let answer = answer_of c.refusal.result in
    let asks : asked c.args.request ≡ refused refusal =
    sym c.in_ok-refused.ensures.asked ∙ ap asked_by_request c.in-Refused.is ∙ ap refused (sym c.cause.ensures) in
    subst (λ (a : Asked). AnswersAsked gives layout a (record { moment = now; outside = outside }) (record { moment = now; outside = outside }) answer) (sym asks)
    (of_buckets gives layout (refused refusal) now now outside answer (refused_at_once gives layout refusal now c.refusal.result c.refusal.ensures.reply))

pub returns-in-Get-clause-answers : goal.returns-in-Get-clause-answers
returns-in-Get-clause-answers g c =
    let gives = g.C.Clock.gives in
    let layout = g.D.Desk.layout c.args.desk.now in
    let clock = c.args.clock.now in
    let seen = g.D.Desk.seen c.args.desk.now in
    let then = g.D.Desk.seen c.get.new.desk in
    let stops = c.args.trail.now.stops in
    let more = c.get.new.trail.stops in
    let outside = outside_of (g.H.Hosts.started c.args.hosts.now) (g.H.Hosts.start_faults c.args.hosts.now) (g.H.Hosts.stop_faults c.args.hosts.now) (g.P.Pace.stops c.args.pace.now) (g.H.Hosts.reached c.args.hosts.now) in
    let answer = answer_of c.get.result in
    let what = get c.in-Get.id in
    let asks : asked c.args.request ≡ what = sym c.in_ok-refused.ensures.asked ∙ ap asked_by_request c.in-Get.is in
    subst (λ (a : Asked). AnswersAsked gives layout a (record { moment = moment_of seen stops clock; outside = outside }) (record { moment = moment_of then more clock; outside = outside }) answer) (sym asks)
    (of_buckets gives layout what (moment_of seen stops clock) (moment_of then more clock) outside answer
    (by_no_clock gives layout what seen then clock stops more answer c.get.ensures.answers))

pub returns-in-GetIds-clause-answers : goal.returns-in-GetIds-clause-answers
returns-in-GetIds-clause-answers g c =
    let gives = g.C.Clock.gives in
    let layout = g.D.Desk.layout c.args.desk.now in
    let clock = c.args.clock.now in
    let seen = g.D.Desk.seen c.args.desk.now in
    let then = g.D.Desk.seen c.get_ids.new.desk in
    let stops = c.args.trail.now.stops in
    let more = c.get_ids.new.trail.stops in
    let outside = outside_of (g.H.Hosts.started c.args.hosts.now) (g.H.Hosts.start_faults c.args.hosts.now) (g.H.Hosts.stop_faults c.args.hosts.now) (g.P.Pace.stops c.args.pace.now) (g.H.Hosts.reached c.args.hosts.now) in
    let answer = answer_of c.get_ids.result in
    let what = get_ids c.in-GetIds.ids in
    let asks : asked c.args.request ≡ what = sym c.in_ok-refused.ensures.asked ∙ ap asked_by_request c.in-GetIds.is in
    subst (λ (a : Asked). AnswersAsked gives layout a (record { moment = moment_of seen stops clock; outside = outside }) (record { moment = moment_of then more clock; outside = outside }) answer) (sym asks)
    (of_buckets gives layout what (moment_of seen stops clock) (moment_of then more clock) outside answer
    (by_no_clock gives layout what seen then clock stops more answer c.get_ids.ensures.answers))

pub returns-in-Select-clause-answers : goal.returns-in-Select-clause-answers
returns-in-Select-clause-answers g c =
    let gives = g.C.Clock.gives in
    let layout = g.D.Desk.layout c.args.desk.now in
    let clock = c.args.clock.now in
    let seen = g.D.Desk.seen c.args.desk.now in
    let then = g.D.Desk.seen c.select.new.desk in
    let stops = c.args.trail.now.stops in
    let more = c.select.new.trail.stops in
    let outside = outside_of (g.H.Hosts.started c.args.hosts.now) (g.H.Hosts.start_faults c.args.hosts.now) (g.H.Hosts.stop_faults c.args.hosts.now) (g.P.Pace.stops c.args.pace.now) (g.H.Hosts.reached c.args.hosts.now) in
    let answer = answer_of c.select.result in
    let what = select (select_of c.in-Select.asked) in
    let asks : asked c.args.request ≡ what = sym c.in_ok-refused.ensures.asked ∙ ap asked_by_request c.in-Select.is in
    subst (λ (a : Asked). AnswersAsked gives layout a (record { moment = moment_of seen stops clock; outside = outside }) (record { moment = moment_of then more clock; outside = outside }) answer) (sym asks)
    (of_buckets gives layout what (moment_of seen stops clock) (moment_of then more clock) outside answer
    (by_no_clock gives layout what seen then clock stops more answer c.select.ensures.answers))

pub returns-in-Update-clause-answers : goal.returns-in-Update-clause-answers
returns-in-Update-clause-answers g c =
    let gives = g.C.Clock.gives in
    let layout = g.D.Desk.layout c.args.desk.now in
    let old = moment_of (g.D.Desk.seen c.args.desk.now) c.args.trail.now.stops c.args.clock.now in
    let new = moment_of (g.D.Desk.seen c.update-end.new.desk) c.update-end.new.trail.stops c.update-end.new.clock in
    let before = outside_of (g.H.Hosts.started c.args.hosts.now) (g.H.Hosts.start_faults c.args.hosts.now) (g.H.Hosts.stop_faults c.args.hosts.now) (g.P.Pace.stops c.args.pace.now) (g.H.Hosts.reached c.args.hosts.now) in
    let after = outside_of (g.H.Hosts.started c.update-end.new.hosts) (g.H.Hosts.start_faults c.update-end.new.hosts) (g.H.Hosts.stop_faults c.update-end.new.hosts) (g.P.Pace.stops c.args.pace.now) (g.H.Hosts.reached c.update-end.new.hosts) in
    let batch = c.in-Update.batch in
    let answer = answer_of c.update_reply.result in
    let asks : asked c.args.request ≡ update (update_of batch) = sym c.in_ok-refused.ensures.asked ∙ ap asked_by_request c.in-Update.is in
    subst (λ (a : Asked). AnswersAsked gives layout a (record { moment = old; outside = before }) (record { moment = new; outside = after }) answer) (sym asks)
    (updated_asked gives layout batch old new before after c.update-end.result c.update_reply.result c.update-end.ensures.updated
    (ap (λ started. record after { started = started }) c.update-end.ensures.cores.cores ∙ ap (λ n. record before { start_faults = n; stop_faults = after.stop_faults; reach = after.reach }) c.update-end.ensures.cores.start_faults
    ∙ ap (λ n. record before { stop_faults = n; reach = after.reach }) c.update-end.ensures.cores.stop_faults)
    c.update_reply.ensures.reply)

pub returns-in-Command-Status-clause-answers : goal.returns-in-Command-Status-clause-answers
returns-in-Command-Status-clause-answers g c =
    let gives = g.C.Clock.gives in
    let layout = g.D.Desk.layout c.args.desk.now in
    let clock = c.args.clock.now in
    let old = view_of (g.D.Desk.seen c.args.desk.now) c.args.trail.now.stops in
    let new = view_of (g.D.Desk.seen c.status.new.desk) c.status.new.trail.stops in
    let outside = outside_of (g.H.Hosts.started c.args.hosts.now) (g.H.Hosts.start_faults c.args.hosts.now) (g.H.Hosts.stop_faults c.args.hosts.now) (g.P.Pace.stops c.args.pace.now) (g.H.Hosts.reached c.args.hosts.now) in
    let answer = answer_of c.status.result in
    let what : asked c.args.request ≡ command status =
    sym c.in_ok-refused.ensures.asked ∙ ap asked_by_request (c.in-Command-Status.is ∙ ap asks.Command c.in-Command-Status.field-0-is) in
    subst (λ (a : Asked). AnswersAsked gives layout a (world_at old clock outside) (world_at new clock outside) answer) (sym what)
    (status_answered gives layout old new clock outside answer c.status.ensures.shows)

pub returns-in-Command-Split-clause-answers : goal.returns-in-Command-Split-clause-answers
returns-in-Command-Split-clause-answers g c =
    let gives = g.C.Clock.gives in
    let layout = g.D.Desk.layout c.args.desk.now in
    let clock = c.args.clock.now in
    let old = view_of (g.D.Desk.seen c.args.desk.now) c.args.trail.now.stops in
    let new = view_of (g.D.Desk.seen c.split-end.new.desk) c.split-end.new.trail.stops in
    let before = outside_of (g.H.Hosts.started c.args.hosts.now) (g.H.Hosts.start_faults c.args.hosts.now) (g.H.Hosts.stop_faults c.args.hosts.now) (g.P.Pace.stops c.args.pace.now) (g.H.Hosts.reached c.args.hosts.now) in
    let after = outside_of (g.H.Hosts.started c.split-end.new.hosts) (g.H.Hosts.start_faults c.split-end.new.hosts) (g.H.Hosts.stop_faults c.split-end.new.hosts) (g.P.Pace.stops c.split-end.new.pace) (g.H.Hosts.reached c.split-end.new.hosts) in
    let shard = c.as_str.result.now in
    let cut = c.in-Command-Split.cut in
    let answer = answer_of c.split_reply.result in
    let what : asked c.args.request ≡ command (split shard (pieces_of cut)) =
    sym c.in_ok-refused.ensures.asked ∙ ap asked_by_request (c.in-Command-Split.is ∙ ap asks.Command c.in-Command-Split.field-0-is)
    ∙ ap (λ name. command (split name (pieces_of cut))) (sym c.as_str.ensures) in
    subst (λ (a : Asked). AnswersAsked gives layout a (world_at old clock before) (world_at new clock after) answer) (sym what)
    (split_answered gives layout shard cut (split_moment old before) (split_moment new after) clock c.split-end.result answer c.split-end.ensures.split c.split_reply.ensures.reply)

pub returns-in-Command-Delete-clause-answers : goal.returns-in-Command-Delete-clause-answers
returns-in-Command-Delete-clause-answers g c =
    let gives = g.C.Clock.gives in
    let layout = g.D.Desk.layout c.args.desk.now in
    let clock = c.args.clock.now in
    let old = view_of (g.D.Desk.seen c.args.desk.now) c.args.trail.now.stops in
    let new = view_of (g.D.Desk.seen c.delete-end.new.desk) c.delete-end.new.trail.stops in
    let pace = g.P.Pace.stops c.args.pace.now in
    let before = outside_of (g.H.Hosts.started c.args.hosts.now) (g.H.Hosts.start_faults c.args.hosts.now) (g.H.Hosts.stop_faults c.args.hosts.now) (g.P.Pace.stops c.args.pace.now) (g.H.Hosts.reached c.args.hosts.now) in
    let after = outside_of (g.H.Hosts.started c.delete-end.new.hosts) (g.H.Hosts.start_faults c.delete-end.new.hosts) (g.H.Hosts.stop_faults c.delete-end.new.hosts) (g.P.Pace.stops c.args.pace.now) (g.H.Hosts.reached c.delete-end.new.hosts) in
    let shard = c.as_str-in-Command-Delete.result.now in
    let answer = answer_of c.delete_reply.result in
    let what : asked c.args.request ≡ command (delete shard) =
    sym c.in_ok-refused.ensures.asked ∙ ap asked_by_request (c.in-Command-Delete.is ∙ ap asks.Command c.in-Command-Delete.field-0-is)
    ∙ ap (λ name. command (delete name)) (sym c.as_str-in-Command-Delete.ensures) in
    subst (λ (a : Asked). AnswersAsked gives layout a (world_at old clock before) (world_at new clock after) answer) (sym what)
    (deletion_answered gives layout shard old new before after clock c.delete-end.result answer (c.delete-end.ensures.delete pace) c.delete_reply.ensures.reply)
