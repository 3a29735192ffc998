-- What one exchange makes of an open connection.
use Rattle.std.proofs.Common.{◌≡◌, ℕ, ◌+◌, Bool, true, false, List, [], ◌∷◌, ◌++◌, length, Option, Some, None, refl, sym, ap, ◌∙◌, subst, inl, inr}
use Rattle.std.specs.Prelude.{drop, map, IfSome, IsSome, is_some}
use Rattle.std.proofs.Math.Seq.{drop-append_seam}
use Rattle.std.proofs.lemmas.List.{append-nil, map-append}
use Rattle.std.proofs.lemmas.Grind.{flat_map-append}
use Rattle.sc_model.specs.declared.message.Incoming.{Incoming}
use Rattle.sc_model.specs.Messages.{ReadsMessage, ReadsMessages}
use Rattle.sc_model.specs.Replies.{text_of}
use Rattle.sc_seen.specs.Seen.{Layout, Seen}
use Rattle.sc_seen.specs.Moments.{moment_of}
use Rattle.sc_seen.specs.declared.stop.Stop.{Stop}
use Rattle.sc_gate.specs.Gates.{Gated}
use Rattle.sc_journal.proofs.ListLemmas.{split_last}
use Rattle.sc_collection.specs.Kept.{are_enough}
use Rattle.sc_session.specs.Answers.{Answer, replied, ran_out}
use Rattle.sc_session.specs.Connection.{GateOutcome, kept, log_failed, no_memory, Exchange, StaysOpen, gated_reply, reply_of_exchange, texts_of, end_after, end_at}
use Rattle.sc_session.specs.Requests.{asked}
use Rattle.sc_session.specs.States.{World, ConnectionState, CountsFault, world_of}
use Rattle.sc_session.specs.Answering.{AnswersAsked}
use Rattle.sc_session.specs.Serving.{Exchanges, GateMoment, PassesGate, Responds, Writes, end_by}
use Rattle.sc_session.specs.declared.end.End.{End}
use Rattle.sc_session.specs.declared.end.End.TheVariants as ends
use Rattle.sc_session.proofs.OpenLemmas.{IsOpen, HasRead, without_source, traces_after, end_same, read_after, reads_more, writes_then}

texts_of-push : (exchanges : List Exchange) (x : Exchange) → texts_of (exchanges ++ x ∷ []) ≡ texts_of exchanges ++ text_of (reply_of_exchange x) false
texts_of-push exchanges x = flat_map-append (λ (y : Exchange). text_of (reply_of_exchange y) false) exchanges (x ∷ []) ∙ ap (λ (bytes : List ℕ). texts_of exchanges ++ bytes) (append-nil (text_of (reply_of_exchange x) false))

-- where each exchange leaves the connection open and one more does, all do
stays_more : (exchanges : List Exchange) (x : Exchange) → StaysOpen exchanges → end_at exchanges x ≡ None → StaysOpen (exchanges ++ x ∷ [])
stays_more exchanges x open_ last before y after h =
    elim (split_last exchanges x before y after h) [
      | inl both ↦ subst (λ (b : List Exchange). end_at b y ≡ None) both.0 (subst (λ (z : Exchange). end_at exchanges z ≡ None) both.1 last)
      | inr some ↦ open_ before y some.0 some.1
    ]

-- a connection that stays open has not had all, and what its last request made is kept
not_full : (answer : Answer) (gate : GateOutcome) (close full : Bool) → end_after answer gate close full ≡ None → (full ≡ false) × (gate ≡ kept)
not_full (replied reply) kept false false h = (refl, refl)
not_full (replied reply) kept false true h = absurd (cc)
not_full (replied reply) kept true full h = absurd (cc)
not_full (replied reply) log_failed close full h = absurd (cc)
not_full (replied reply) no_memory close full h = absurd (cc)
not_full ran_out gate close full h = absurd (cc)

-- it stays open after an exchange that leaves it so
pub open_more : {C : Type 0} (gives : C → ℕ → C → Type 0) (layout : Layout) (before now then : ConnectionState C) (held next : List ℕ) (request : Incoming)
    → IsOpen gives layout before now held
    → Exchanges gives layout request (without_source now) (without_source then) None
    → (IsSome now.unread → IsSome then.unread) → IfSome now.unread (λ bytes. IfSome then.unread (λ more. ReadsMessage (held ++ bytes) request (next ++ more)))
    → then.read_faults ≡ now.read_faults
    → IsOpen gives layout before then next
open_more {C} gives layout before now then held next request open_ step reports message steady =
    record {
      exchanges = open_.exchanges ++ step.exchange ∷ [];
      stays_open = stays_more open_.exchanges step.exchange open_.stays_open (sym (end_same gives layout before now then held next request None open_ step) ∙ sym went.0);
      traces = traces_after gives layout before now then held next request None open_ step;
      more = open_still.0;
      read = reads before.unread (read_after gives layout before now then held next request None open_ step reports message);
      wrote = subst (λ (text : List ℕ). Writes text before.written then.written) (sym (texts_of-push open_.exchanges step.exchange))
          (writes_then (texts_of open_.exchanges) (text_of (reply_of_exchange step.exchange) false) before.written now.written then.written open_.wrote went.1);
      read_faults = steady ∙ open_.read_faults;
      write_faults = step.write_faults.stays (λ fault. absurd (cc)) ∙ open_.write_faults;
      log_faults = step.passes.faults.stays (λ failed. let other : kept ≡ log_failed = sym open_still.1 ∙ failed in absurd (cc)) ∙ open_.log_faults;
    }
  where
    -- its reply was written, and the connection stays open
    went : (None ≡ end_by step.exchange (without_source then)) × Writes (text_of (reply_of_exchange step.exchange) false) now.written then.written
    went = elim step.responds [
      | inl whole ↦ (whole.0, subst (λ (end : Option End). Writes (text_of (reply_of_exchange step.exchange) (is_some end)) now.written then.written) (sym whole.0) whole.1)
      | inr part ↦ (let fault : None ≡ Some ends.WriteFault = part.0 in absurd (cc))
    ]

    open_still : (are_enough then.requests (length then.moment.view.stops) ≡ false) × (step.exchange.gate ≡ kept)
    open_still = not_full step.exchange.answer step.exchange.gate step.exchange.request.close (are_enough then.requests (length then.moment.view.stops)) (sym went.0)

    reads : (o : Option (List ℕ)) → HasRead o then.unread open_.exchanges step.exchange.request next
        → IfSome o (λ bytes. (more : List ℕ) × (then.unread ≡ Some more) × ReadsMessages bytes (map (λ (y : Exchange). y.request) (open_.exchanges ++ step.exchange ∷ [])) (next ++ more))
    reads None r = tt
    reads (Some bytes) r = (
      r.1,
      r.2,
      subst (λ (rs : List Incoming). ReadsMessages bytes rs (next ++ r.1)) (sym (map-append (λ (y : Exchange). y.request) open_.exchanges (step.exchange ∷ [])))
          (reads_more bytes (map (λ (y : Exchange). y.request) open_.exchanges) r.0 step.exchange.request (next ++ r.1) r.3 r.4),
    )

-- what stood beside a request once it was answered, when this had been seen and the gate was still to be passed
abbrev pub answered_world : {C : Type 0} → Seen → ConnectionState C → World C
answered_world seen new = record { moment = moment_of seen new.moment.view.stops new.moment.clock; outside = new.outside }

-- what was seen and what a gate keeps, by these
abbrev pub gate_moment : Seen → Gated → GateMoment
gate_moment seen gate = record { seen = seen; gate = gate }

-- one request that was answered when this had been seen, after which the gate was passed, and whose reply was written
pub exchanged : {C : Type 0} (gives : C → ℕ → C → Type 0) (layout : Layout) (request : Incoming) (old new : ConnectionState C) (seen : Seen) (answer : Answer) (gate : GateOutcome) (end expected : Option End)
    → AnswersAsked gives layout (asked request) (world_of old) (answered_world seen new) answer
    → PassesGate layout (drop (length old.moment.view.stops) new.moment.view.stops) (gate_moment seen old.gate) (gate_moment new.moment.view.seen new.gate) gate
    → new.requests ≡ old.requests + 1
    → expected ≡ end_after answer gate request.close (are_enough new.requests (length new.moment.view.stops))
    → Responds end expected (gated_reply answer gate) old.written new.written
    → CountsFault (end ≡ Some ends.WriteFault) old.write_faults new.write_faults
    → Exchanges gives layout request old new end
exchanged gives layout request old new seen answer gate end expected answers passes count is responds faults = record {
  exchange = record { request = request; trace = answers.trace; answer = answer; seen = seen; outside = new.outside; gate = gate; passed = new.moment.view.seen };
  request_is = refl;
  passed_is = refl;
  outside_is = refl;
  is = record { extends = answers.extends; last = answers.last; answered = answers.answered; once = answers.once; met = its.met; unasked = its.unasked };
  leaves = answers.leaves;
  stops = answers.kept;
  requests = count;
  timestamps = answers.given;
  responds = subst (λ (e : Option End). Responds end e (gated_reply answer gate) old.written new.written) is responds;
  write_faults = faults;
  passes = its;
} where
  its : PassesGate layout answers.trace.stops (gate_moment seen old.gate) (gate_moment new.moment.view.seen new.gate) gate
  its = subst (λ (ss : List Stop). PassesGate layout ss (gate_moment seen old.gate) (gate_moment new.moment.view.seen new.gate) gate)
      (ap (drop (length old.moment.view.stops)) answers.kept ∙ drop-append_seam old.moment.view.stops answers.trace.stops) passes
