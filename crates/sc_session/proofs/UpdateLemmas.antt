-- An update is answered by what its orders and its commits came to.
use Rattle.std.proofs.Common.{◌≡◌, ℕ, ◌+◌, ◌-◌, ◌*◌, ◌^◌, ◌<◌, ◌≤◌, Bool, true, false, List, [], ◌∷◌, ◌++◌, length, Option, Some, None, Result, Ok, Err, refl, sym, ap, ◌∙◌, subst, arith, length-append, append_assoc, inl, inr}
use Rattle.std.specs.Prelude.{◌≢◌, map, slice_get, IfOk, IfSome}
use Rattle.std.specs.declared.alloc.AllocError.{AllocError}
use Rattle.std.proofs.lemmas.List.{map-append, length-map}
use Rattle.std.proofs.Math.Pow.{pow_mono}
use mathlib.Core.List.{IsPrefix}
use Rattle.sc_record.specs.declared.order.Order.{Order}
use Rattle.sc_record.specs.declared.ack.Ack.{Ack}
use Rattle.sc_reply.specs.Bodies.{update_text, error_text}
use Rattle.sc_reply.specs.Refusals as refusals
use Rattle.sc_commands.specs.declared.batch.Batch.{Batch}
use Rattle.sc_router.specs.Route.{IsBucketCount}
use Rattle.sc_io.specs.Hosts.{Reached}
use Rattle.sc_cores.specs.Cores.{Outside}
use Rattle.sc_collection.specs.Kept.{stops_of_request, trail_room}
use Rattle.sc_record.specs.Orders.{order_limit}
use Rattle.sc_commands.specs.Updates.{update_of}
use Rattle.sc_journal.specs.Journal.{last_of}
use Rattle.sc_journal.specs.Outcomes.{Outcome, accepted, conflict, partial, log_full, out_of_memory}
use Rattle.sc_seen.specs.Seen.{Layout, Seen, SeesMore}
use Rattle.sc_seen.specs.Moments.{Moment}
use Rattle.sc_seen.specs.Batches.{OrderAnswer, goes_on, accepted_adds, accepted_deletes, order_stops, order_timestamps}
use Rattle.sc_seen.specs.Commits.{committed_now, commit_full, commit_out_of_memory, commit_stops}
use Rattle.std.proofs.lemmas.Option.{slice_get_within}
use Rattle.sc_journal.proofs.ListLemmas.{last_of_cases, slice_get-append_end}
use Rattle.sc_seen.proofs.GoesOnLemmas.{SeesMore-self}
use Rattle.sc_update.specs.Updated as updates
use Rattle.sc_update.specs.Updated.{UpdateMoment, UpdateEnd, finished, Shows, OrdersEnd, IsUpdated, ReportsEnd, reported}
use Rattle.sc_update.specs.declared.end.BatchEnd.{BatchEnd}
use Rattle.sc_update.specs.declared.end.BatchFault.{BatchFault}
use Rattle.sc_update.specs.declared.end.BatchFault.TheVariants as reports
use Rattle.sc_session.specs.Requests.{update}
use Rattle.sc_session.specs.Commands.{no_command, situation, KeepsRest}
use Rattle.sc_session.specs.Answers.{replied, IsAnswer, Trace, EndsBatch, update_answer, refusal_after}
use Rattle.sc_session.specs.Answering.{AnswersAsked, IsOfOrder, RefusesFor, IsReplyTo, reply_of, answer_of}
use Rattle.sc_session.specs.declared.reply.Reply.{Reply}

-- where versions are not shown, what was accepted is of no matter
refused_same : (versions : Bool) (status : ℕ) (message : List ℕ) (answers : List OrderAnswer) (end : BatchEnd) → Shows versions answers end
    → error_text status message end.adds end.deletes versions ≡ error_text status message (accepted_adds answers) (accepted_deletes answers) versions
refused_same true status message answers end shown = ap (λ (adds : List Ack). error_text status message adds end.deletes true) shown.0 ∙ ap (λ (deletes : List Ack). error_text status message (accepted_adds answers) deletes true) shown.1
refused_same false status message answers end shown = refl

done_same : (versions : Bool) (answers : List OrderAnswer) (end : BatchEnd) → Shows versions answers end
    → update_text end.adds end.deletes versions ≡ update_text (accepted_adds answers) (accepted_deletes answers) versions
done_same true answers end shown = ap (λ (adds : List Ack). update_text adds end.deletes true) shown.0 ∙ ap (λ (deletes : List Ack). update_text (accepted_adds answers) deletes true) shown.1
done_same false answers end shown = refl

-- a batch of no more orders than may be finds room among the stops, its commits too
pub batch_room : (stops : ℕ) (batch : Batch) (buckets : ℕ) → stops + stops_of_request ≤ trail_room → length batch.orders ≤ order_limit → IsBucketCount buckets
    → stops + 2 * length batch.orders + buckets ≤ trail_room
batch_room stops batch buckets room few (k, small, is) =
    let most : 2 ^ k ≤ 256 = pow_mono {i = k} {j = 8} small in
    omega (arith, room, few, is, most)

-- the order of an answer
abbrev order_of : OrderAnswer → Order
order_of answer = answer.order

-- the last answer is to the order at its place
last_order : (batch : Batch) (answers : List OrderAnswer) (last : OrderAnswer) → IsPrefix (map order_of answers) batch.orders → last_of answers ≡ Some last
    → slice_get batch.orders (length answers - 1) ≡ Some last.order
last_order batch answers last prefix is = elim (last_of_cases answers) [
  | inl none ↦ (let both : None ≡ Some last = sym none.1 ∙ is in absurd (cc))
  | inr some ↦
      (let before = some.0 in
      let x = some.1 in
      let both : Some x ≡ Some last = sym some.3 ∙ is in
      let same : x ≡ last = cc in
      let mapped : map order_of answers ≡ map order_of before ++ x.order ∷ [] = ap (map order_of) some.2 ∙ map-append order_of before (x ∷ []) in
      let whole : map order_of before ++ x.order ∷ prefix.0 ≡ batch.orders =
      sym (append_assoc (map order_of before) (x.order ∷ []) prefix.0) ∙ ap (λ (xs : List Order). xs ++ prefix.0) (sym mapped) ∙ prefix.1 in
      let place : length answers - 1 ≡ length (map order_of before) =
      omega (arith, ap length some.2, length-append before (x ∷ []), length-map before order_of) in
      ap (slice_get batch.orders) place ∙ ap (λ (xs : List Order). slice_get xs (length (map order_of before))) (sym whole)
      ∙ slice_get-append_end (map order_of before) x.order prefix.0 ∙ ap (λ (a : OrderAnswer). Some a.order) same)
]

-- a place that is in a list
within : {A : Type 0} (xs : List A) (at : ℕ) (x : A) → slice_get xs at ≡ Some x → at < length xs
within xs at x is = slice_get_within xs at x is

-- a fault that is reported is of an order of the batch
pub of_order : {C : Type 0} (gives : C → ℕ → C → Type 0) (layout : Layout) (batch : Batch) (old new : UpdateMoment C) (end : BatchEnd)
    → (updated : IsUpdated gives layout batch old new end) → IfSome end.fault (IsOfOrder batch)
of_order gives layout batch old new end updated =
    let now = new.moment.view.seen in
    let ends = updated.ends now (SeesMore-self now) in
    subst (λ (fault : Option BatchFault). IfSome fault (IsOfOrder batch)) (sym updated.reports.fault)
    (by updated.how ends.0 (updated.answered now (SeesMore-self now)).in_turn)
  where
    by : (how : UpdateEnd) → OrdersEnd batch updated.answers how → IsPrefix (map order_of updated.answers) batch.orders → IfSome (reported updated.answers how) (IsOfOrder batch)
    by (finished committed_now) orders prefix = tt
    by (finished commit_full) orders prefix = tt
    by (finished commit_out_of_memory) orders prefix = tt
    by (updates.refused last) orders prefix = at last.outcome where
      at : (outcome : Outcome) → IfSome (updates.order_fault (length updated.answers - 1) outcome) (IsOfOrder batch)
      at (accepted version) = tt
      at (conflict actual) = within batch.orders (length updated.answers - 1) last.order (last_order batch updated.answers last prefix orders.0)
      at (partial field) = tt
      at log_full = tt
      at out_of_memory = tt
    by updates.ran_out orders prefix = tt

-- a reply to what is reported is the answer by the orders and the commits
answer_is : (batch : Batch) (answers : List OrderAnswer) (how : UpdateEnd) (end : BatchEnd) (reply : Reply) → OrdersEnd batch answers how
    → IsPrefix (map order_of answers) batch.orders → ReportsEnd batch answers how end → IsReplyTo batch end reply
    → update_answer batch.flags.versions answers how ≡ replied (reply_of reply)
answer_is batch answers how end reply orders prefix says is = by how orders says.fault is where
  -- a refusal, where what is reported is this fault and the fault is for this reason
  refuses : (refusal : refusals.Refusal)
      → reply_of reply ≡ record { status = refusals.refusal_status refusal; body = error_text (refusals.refusal_status refusal) (refusals.message_of refusal) end.adds end.deletes batch.flags.versions }
      → replied (refusal_after batch.flags.versions answers refusal) ≡ replied (reply_of reply)
  refuses refusal is = ap replied (sym (is ∙ ap (λ (text : List ℕ). record { status = refusals.refusal_status refusal; body = text })
      (refused_same batch.flags.versions (refusals.refusal_status refusal) (refusals.message_of refusal) answers end says.shown)))

  -- what is replied to an update that reports this
  here : (fault : Option BatchFault) → end.fault ≡ fault → IsReplyTo batch end reply → IsReplyTo batch (record { adds = end.adds; deletes = end.deletes; fault = fault }) reply
  here fault same is = subst (λ (f : Option BatchFault). IsReplyTo batch (record { adds = end.adds; deletes = end.deletes; fault = f }) reply) same is

  by : (how : UpdateEnd) → OrdersEnd batch answers how → end.fault ≡ reported answers how → IsReplyTo batch end reply
      → update_answer batch.flags.versions answers how ≡ replied (reply_of reply)
  by (finished committed_now) orders fault is =
      let done = here None fault is in
      ap replied (sym (done ∙ ap (λ (text : List ℕ). record { status = 200; body = text }) (done_same batch.flags.versions answers end says.shown)))
  by (finished commit_full) orders fault is =
      let full = here (Some reports.LogFull) fault is in
      ap (λ (r : refusals.Refusal). replied (refusal_after batch.flags.versions answers r)) (sym full.1) ∙ refuses full.0 full.2
  by (finished commit_out_of_memory) orders fault is = absurd (here (Some reports.Memory) fault is)
  by (updates.refused last) orders fault is = at last.outcome refl where
    at : (outcome : Outcome) → last.outcome ≡ outcome → update_answer batch.flags.versions answers (updates.refused last) ≡ replied (reply_of reply)
    at (accepted version) same =
        let goes : true ≡ false = ap (goes_on batch.flags.fail_on_conflict) (sym same) ∙ orders.1 in absurd (cc)
    at (conflict actual) same =
        let stopped = here (Some (reports.Conflict (length answers - 1) actual)) (fault ∙ ap (updates.order_fault (length answers - 1)) same) is in
        let one : Some stopped.1.0 ≡ Some last.order = sym stopped.1.1 ∙ last_order batch answers last prefix orders.0 in
        let order : stopped.1.0 ≡ last.order = cc in
        ap (λ (o : Outcome). update_answer batch.flags.versions answers (updates.refused (record { order = last.order; timestamp = last.timestamp; stops = last.stops; outcome = o }))) same
        ∙ ap (λ (o : Order). replied (refusal_after batch.flags.versions answers (refusals.conflict o.id o.condition actual))) (sym order)
        ∙ ap (λ (r : refusals.Refusal). replied (refusal_after batch.flags.versions answers r)) (sym stopped.1.2) ∙ refuses stopped.0 stopped.2
    at (partial field) same =
        let stopped = here (Some (reports.Partial (length answers - 1) field)) (fault ∙ ap (updates.order_fault (length answers - 1)) same) is in
        ap (λ (o : Outcome). update_answer batch.flags.versions answers (updates.refused (record { order = last.order; timestamp = last.timestamp; stops = last.stops; outcome = o }))) same
        ∙ ap (λ (r : refusals.Refusal). replied (refusal_after batch.flags.versions answers r)) (sym stopped.1) ∙ refuses stopped.0 stopped.2
    at log_full same =
        let stopped = here (Some reports.LogFull) (fault ∙ ap (updates.order_fault (length answers - 1)) same) is in
        ap (λ (o : Outcome). update_answer batch.flags.versions answers (updates.refused (record { order = last.order; timestamp = last.timestamp; stops = last.stops; outcome = o }))) same
        ∙ ap (λ (r : refusals.Refusal). replied (refusal_after batch.flags.versions answers r)) (sym stopped.1) ∙ refuses stopped.0 stopped.2
    at out_of_memory same = absurd (here (Some reports.Memory) (fault ∙ ap (updates.order_fault (length answers - 1)) same) is)
  by updates.ran_out orders fault is = absurd (here (Some reports.Memory) fault is)

-- a refusal is the reply to what is reported, but for want of memory
pub refused_reply : (batch : Batch) (end : BatchEnd) (fault : BatchFault) (refusal : refusals.Refusal) (reply : Result Reply AllocError)
    → end.fault ≡ Some fault → fault ≢ reports.Memory → RefusesFor batch fault refusal
    → IfOk reply (λ reply. reply_of reply ≡ record { status = refusals.refusal_status refusal; body = error_text (refusals.refusal_status refusal) (refusals.message_of refusal) end.adds end.deletes batch.flags.versions })
    → IfOk reply (IsReplyTo batch end)
refused_reply batch end fault refusal (Err e) same apart why is = tt
refused_reply batch end fault refusal (Ok reply) same apart why is =
    subst (λ (f : Option BatchFault). IsReplyTo batch (record { adds = end.adds; deletes = end.deletes; fault = f }) reply) (sym same) (by fault apart why) where
      by : (fault : BatchFault) → fault ≢ reports.Memory → RefusesFor batch fault refusal
          → IsReplyTo batch (record { adds = end.adds; deletes = end.deletes; fault = Some fault }) reply
      by (reports.Conflict order actual) apart why = (refusal, why, is)
      by (reports.Partial order field) apart why = (refusal, why, is)
      by reports.LogFull apart why = (refusal, why, is)
      by reports.Memory apart why = absurd (apart refl)

-- an update that was answered by what it reports, which asked for nodes alone of what is outside
pub updated_asked : {C : Type 0} (gives : C → ℕ → C → Type 0) (layout : Layout) (batch : Batch) (old new : Moment C) (before after : Outside) (end : BatchEnd) (answer : Result Reply AllocError)
    → IsUpdated gives layout batch (record { moment = old; reach = before.reach }) (record { moment = new; reach = after.reach }) end
    → after ≡ record before { reach = after.reach } → IfOk answer (IsReplyTo batch end)
    → AnswersAsked gives layout (update (update_of batch)) (record { moment = old; outside = before }) (record { moment = new; outside = after }) (answer_of answer)
updated_asked {C} gives layout batch old new before after end answer updated outside replies = record {
  trace = trace;
  extends = updated.keeps.goes.extends;
  last = updated.keeps.goes.last;
  kept = updated.keeps.kept;
  given = updated.timestamps;
  answered = λ later more. by later more answer replies;
  once = updated.once;
  leaves = rest;
}
  where
    trace : Trace
    trace = record {
      answers = updated.answers;
      commits = updated.commits;
      timestamps = order_timestamps updated.answers;
      stops = order_stops updated.answers ++ commit_stops updated.commits;
      command = no_command;
    }

    rest : KeepsRest layout trace.answers trace.stops (situation old.view.seen before) (situation new.view.seen after)
    rest = record {
      stays = updated.keeps.goes.stays;
      board = λ none. updated.keeps.goes.board;
      board_own = updated.keeps.goes.board_own;
      reach = record {
        rest = outside;
        none = λ none. outside ∙ ap (λ (reach : Reached). record before { reach = reach }) (updated.unasked none);
        downs = updated.notes;
      };
    }

    ends : (later : Seen) → SeesMore new.view.seen later → EndsBatch layout later batch trace updated.how
    ends later more = record { answered = updated.answered later more; ends = updated.ends later more; timestamps_are = refl; stops_are = refl; command_is = refl }

    by : (later : Seen) → SeesMore new.view.seen later → (answer : Result Reply AllocError) → IfOk answer (IsReplyTo batch end)
        → IsAnswer layout later (update (update_of batch)) trace (answer_of answer)
    by later more (Ok reply) is = (
      batch,
      updated.how,
      refl,
      ends later more,
      answer_is batch updated.answers updated.how end reply (updated.ends later more).0 (updated.answered later more).in_turn updated.reports is,
    )
    by later more (Err fault) is = inr (batch, updated.how, refl, ends later more)
