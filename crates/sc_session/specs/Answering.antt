-- What the answer to one request leaves.
use Rattle.std.specs.Prelude.{◌≡◌, ◌<◌, ℕ, false, List, [], ◌∷◌, ◌++◌, length, slice_get, Option, Some, None, Result, Ok, Err, ⊤}
use Rattle.std.specs.declared.alloc.AllocError.{AllocError}
use Rattle.sc_record.specs.declared.order.Order.{Order}
use Rattle.sc_reply.specs.Bodies.{update_text, error_text}
use Rattle.sc_reply.specs.Refusals as refusals
use Rattle.sc_reply.specs.Refusals.{Refusal}
use Rattle.sc_commands.specs.declared.batch.Batch.{Batch}
use Rattle.sc_model.specs.Replies as model
use Rattle.sc_eval.specs.declared.fault.BindFault.{BindFault}
use Rattle.sc_eval.specs.declared.fault.BindFault.TheVariants as faults
use Rattle.sc_seen.specs.Seen.{Layout, Extends, EndAtLast, FromNowOn}
use Rattle.sc_seen.specs.Moments.{View, Moment, Keeps}
use Rattle.sc_seen.specs.Batches.{GivesTimestamps, WritesOnce}
use Rattle.sc_update.specs.declared.end.BatchEnd.{BatchEnd}
use Rattle.sc_update.specs.declared.end.BatchFault.{BatchFault}
use Rattle.sc_update.specs.declared.end.BatchFault.TheVariants as reports
use Rattle.sc_session.specs.declared.reply.Body.{Body}
use Rattle.sc_session.specs.declared.reply.Body.TheVariants as bodies
use Rattle.sc_seen.specs.declared.stop.Stop.{Stop}
use Rattle.sc_session.specs.Answers.{Answer, replied, ran_out, Trace, IsAnswer, refusal_reply, status_reply}
use Rattle.sc_session.specs.Commands.{no_command, ended_stops, Leaves}
use Rattle.sc_session.specs.States.{World, situation_in}
use Rattle.sc_session.specs.Requests.{Asked}
use Rattle.sc_session.specs.declared.reply.Reply.{Reply}

-- the bytes of a body
abbrev pub body_bytes : Body → List ℕ
body_bytes (bodies.Fixed text) = text.now
body_bytes (bodies.Made text) = text

-- a reply as the definitions see it
abbrev pub reply_of : Reply → model.Reply
reply_of reply = record { status = reply.status; body = body_bytes reply.body }

-- what came of a request, as the definitions see it
abbrev pub answer_of : Result Reply AllocError → Answer
answer_of (Ok reply) = replied (reply_of reply)
answer_of (Err fault) = ran_out

-- What was asked of the buckets was answered, without an order: what was seen of them went on by the stops of a trace, which were kept, and
-- the clock was read. The answer is that by all that is seen later, and no write was made.
pub record AnswersOfBuckets {C : Type 0} (gives : C → ℕ → C → Type 0) (layout : Layout) (asked : Asked) (old new : Moment C) (answer : Answer) : Type 0 where
  pub trace : Trace
  pub keeps : Keeps layout old.view new.view trace.stops
  pub given : GivesTimestamps gives old.clock trace.timestamps new.clock
  pub no_command_is : trace.command ≡ no_command
  pub no_order_is : trace.answers ≡ []
  pub answered : FromNowOn new.view.seen (λ later. IsAnswer layout later asked trace answer)
  pub once : FromNowOn new.view.seen (λ later. WritesOnce layout later trace.stops trace.answers)

-- What was asked was answered: what was seen went on by the stops of a trace, which were kept, and the clock was read. The answer is
-- that by all that is seen later, the writes that were made are those that were accepted, and the rest is as what it came to left it.
pub record AnswersAsked {C : Type 0} (gives : C → ℕ → C → Type 0) (layout : Layout) (asked : Asked) (old new : World C) (answer : Answer) : Type 0 where
  pub trace : Trace
  pub extends : Extends layout old.moment.view.seen new.moment.view.seen trace.stops
  pub last : EndAtLast layout new.moment.view.seen (ended_stops trace.command trace.stops)
  pub kept : new.moment.view.stops ≡ old.moment.view.stops ++ trace.stops
  pub given : GivesTimestamps gives old.moment.clock trace.timestamps new.moment.clock
  pub answered : FromNowOn new.moment.view.seen (λ later. IsAnswer layout later asked trace answer)
  pub once : FromNowOn new.moment.view.seen (λ later. WritesOnce layout later trace.stops trace.answers)
  pub leaves : Leaves layout trace.answers trace.stops trace.command (situation_in old) (situation_in new)

-- the answer is this one, or memory ran out as it was made
abbrev pub IsAnswerOf : (defined given : Answer) → Type 0
IsAnswerOf defined (replied reply) = defined ≡ replied reply
IsAnswerOf defined ran_out = ⊤

-- The slices were shown at one stop of the board, which was kept; or memory ran out as they were printed.
pub record ShowsStatus (layout : Layout) (old new : View) (answer : Answer) : Type 0 where
  pub stop : Stop
  pub lock : stop.lock ≡ layout.buckets
  pub made : stop.made ≡ false
  pub extends : Extends layout old.seen new.seen (stop ∷ [])
  pub stays : (lock : ℕ) → new.seen.journals lock ≡ old.seen.journals lock
  pub board_own : new.seen.own layout.buckets ≡ old.seen.own layout.buckets
  pub kept : new.stops ≡ old.stops ++ stop ∷ []
  pub answered : FromNowOn new.seen (λ later. IsAnswerOf (replied (status_reply layout later stop)) answer)

-- a clock that is not read: it gives no timestamp
abbrev pub unread : ⊤ → ℕ → ⊤ → Type 0
unread old timestamp new = ⊥

-- the order that a fault is of is one of the batch
abbrev pub IsOfOrder : Batch → BatchFault → Type 0
IsOfOrder batch (reports.Conflict order actual) = order < length batch.orders
IsOfOrder batch fault = ⊤

-- why a batch is refused that reports this fault
abbrev pub RefusesFor : Batch → BatchFault → Refusal → Type 0
RefusesFor batch (reports.Conflict order actual) refusal =
    (one : Order) × (slice_get batch.orders order ≡ Some one) × (refusal ≡ refusals.conflict one.id one.condition actual)
RefusesFor batch (reports.Partial order field) refusal = refusal ≡ refusals.partial field
RefusesFor batch reports.LogFull refusal = refusal ≡ refusals.log_full
RefusesFor batch reports.Memory refusal = refusal ≡ refusals.memory

-- the reply to an update that reports this, which has a fault or none; there is none where memory ran out
abbrev pub IsReplyTo : Batch → BatchEnd → Reply → Type 0
IsReplyTo batch end reply = by_fault end.fault
  where
    by_fault : Option BatchFault → Type 0
    by_fault None = reply_of reply ≡ record { status = 200; body = update_text end.adds end.deletes batch.flags.versions }
    by_fault (Some reports.Memory) = ⊥
    by_fault (Some fault) = (refusal : Refusal) × RefusesFor batch fault refusal
        × (reply_of reply ≡ record {
          status = refusals.refusal_status refusal;
          body = error_text (refusals.refusal_status refusal) (refusals.message_of refusal) end.adds end.deletes batch.flags.versions;
        })

-- the answer to queries with this fault, or memory ran out
abbrev pub RefusesQuery : BindFault → Answer → Type 0
RefusesQuery (faults.At at) (replied reply) = reply ≡ refusal_reply (refusals.bad_query at)
RefusesQuery faults.Memory (replied reply) = ⊥
RefusesQuery fault ran_out = ⊤
