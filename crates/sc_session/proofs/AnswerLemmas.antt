-- What was asked of the buckets is answered.
use Rattle.std.proofs.Common.{◌≡◌, ℕ, false, List, [], ◌∷◌, Result, Ok, Err, IfOk, refl, sym, subst, arith, inl}
use Rattle.std.proofs.lemmas.List.Elements.{All-nil}
use Rattle.std.specs.declared.alloc.AllocError.{AllocError}
use Rattle.sc_reply.specs.Refusals as refusals
use Rattle.sc_eval.specs.declared.fault.BindFault.{BindFault}
use Rattle.sc_eval.specs.declared.fault.BindFault.TheVariants as faults
use Rattle.sc_seen.specs.Seen.{Layout, Seen}
use Rattle.sc_seen.specs.Batches.{GivesTimestamps}
use Rattle.sc_seen.specs.declared.stop.Stop.{Stop}
use Rattle.sc_seen.proofs.GoesOnLemmas.{Keeps-none}
use Rattle.sc_seen.specs.Moments.{Moment, moment_of}
use Rattle.sc_admin.specs.Commands.{split, status, delete}
use Rattle.sc_session.specs.Queries.{HaveFault}
use Rattle.sc_session.specs.Requests.{Asked, Select, refused, update, get, get_ids, select, command}
use Rattle.sc_session.specs.Answers.{Answer, replied, ran_out, no_trace, IsAnswer, Stands, refusal_after}
use Rattle.sc_session.specs.Answering.{AnswersOfBuckets, RefusesQuery, unread, reply_of, answer_of}
use Rattle.sc_session.specs.declared.reply.Reply.{Reply}

-- an answer that looks at no journal
pub answered_at_once : {C : Type 0} (gives : C → ℕ → C → Type 0) (layout : Layout) (asked : Asked) (now : Moment C) (answer : Answer)
    → ((later : Seen) → IsAnswer layout later asked no_trace answer)
    → AnswersOfBuckets gives layout asked now now answer
answered_at_once gives layout asked now answer answered = record {
  trace = no_trace;
  keeps = Keeps-none layout now.view;
  given = refl;
  no_command_is = refl;
  no_order_is = refl;
  answered = λ later more. answered later;
  once = λ later more. refl;
}

-- nothing stands where nothing was done
nothing_stands : (layout : Layout) (seen : Seen) (asked : Asked) → Stands layout seen asked no_trace
nothing_stands layout seen (refused refusal) = refl
nothing_stands layout seen (update batch) = inl refl
nothing_stands layout seen (get id) = ([], record { trace_is = refl; reads = tt })
nothing_stands layout seen (get_ids ids) = ([], record { trace_is = refl; reads = tt })
nothing_stands layout seen (select ask) = ([], 0, omega arith, refl, record { locks = refl; made = All-nil (λ (stop : Stop). stop.made ≡ false) })
nothing_stands layout seen (command status) = inl refl
nothing_stands layout seen (command (split shard pieces)) = inl refl
nothing_stands layout seen (command (delete shard)) = inl refl

-- memory ran out before a journal was looked at
pub ran_out_at_once : {C : Type 0} (gives : C → ℕ → C → Type 0) (layout : Layout) (asked : Asked) (now : Moment C)
    → AnswersOfBuckets gives layout asked now now ran_out
ran_out_at_once gives layout asked now = answered_at_once gives layout asked now ran_out (λ later. nothing_stands layout later asked)

-- an answer that is an error says that memory ran out
pub with_error : {C : Type 0} (gives : C → ℕ → C → Type 0) (layout : Layout) (asked : Asked) (old new : Moment C) (answer : Result Reply AllocError) (fault : AllocError) → answer ≡ Err fault
    → AnswersOfBuckets gives layout asked old new ran_out → AnswersOfBuckets gives layout asked old new (answer_of answer)
with_error gives layout asked old new answer fault is h = subst (λ (r : Result Reply AllocError). AnswersOfBuckets gives layout asked old new (answer_of r)) (sym is) h

-- a refusal by the request alone, or memory ran out
pub refused_at_once : {C : Type 0} (gives : C → ℕ → C → Type 0) (layout : Layout) (refusal : refusals.Refusal) (now : Moment C) (reply : Result Reply AllocError)
    → IfOk reply (λ reply. reply_of reply ≡ refusal_after false [] refusal)
    → AnswersOfBuckets gives layout (refused refusal) now now (answer_of reply)
refused_at_once gives layout refusal now (Ok reply) is = answered_at_once gives layout (refused refusal) now (replied (reply_of reply)) (λ later. (refl, is))
refused_at_once gives layout refusal now (Err fault) is = ran_out_at_once gives layout (refused refusal) now

-- a query that is at fault
pub query_refused : (layout : Layout) (ask : Select) (fault : BindFault) (now : Moment (Unit {0})) (answer : Answer)
    → ((at : ℕ) → fault ≡ faults.At at → HaveFault ask.queries at) → RefusesQuery fault answer
    → AnswersOfBuckets unread layout (select ask) now now answer
query_refused layout ask (faults.At at) now (replied reply) is e =
    answered_at_once unread layout (select ask) now (replied reply) (λ later. inl (at, is at refl, refl, e))
query_refused layout ask (faults.At at) now ran_out is e = ran_out_at_once unread layout (select ask) now
query_refused layout ask faults.Memory now (replied reply) is e = absurd e
query_refused layout ask faults.Memory now ran_out is e = ran_out_at_once unread layout (select ask) now

-- no timestamp came of a clock that is not read
none_given : (timestamps : List ℕ) → GivesTimestamps unread tt timestamps tt → timestamps ≡ []
none_given [] given = refl
none_given (timestamp ∷ timestamps) given = absurd given.1

-- any clock that is not read stays
pub by_no_clock : {C : Type 0} (gives : C → ℕ → C → Type 0) (layout : Layout) (asked : Asked) (old new : Seen) (clock : C) (old_stops new_stops : List Stop) (answer : Answer)
    → AnswersOfBuckets unread layout asked (moment_of old old_stops tt) (moment_of new new_stops tt) answer
    → AnswersOfBuckets gives layout asked (moment_of old old_stops clock) (moment_of new new_stops clock) answer
by_no_clock gives layout asked old new clock old_stops new_stops answer a = record {
  trace = a.trace;
  keeps = a.keeps;
  given = subst (λ (timestamps : List ℕ). GivesTimestamps gives clock timestamps clock) (sym (none_given a.trace.timestamps a.given)) refl;
  no_command_is = a.no_command_is;
  no_order_is = a.no_order_is;
  answered = a.answered;
  once = a.once;
}
