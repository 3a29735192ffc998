-- What ends an open connection.
use Rattle.std.proofs.Common.{◌≡◌, ℕ, Bool, true, false, List, [], ◌++◌, Option, Some, None, refl, sym, ap, ◌∙◌, subst, inl, inr}
use Rattle.std.specs.Prelude.{◌≢◌, map, IfSome, IsSome, is_some}
use Rattle.std.specs.List.{AllByRecursion}
use Rattle.std.proofs.lemmas.List.{append-nil}
use Rattle.sc_io.specs.Pieces.{AddsPrefix}
use Rattle.sc_model.specs.declared.message.Incoming.{Incoming}
use Rattle.sc_model.specs.Messages.{ReadsMessage, ReadsMessages, Ending, done, cut, bad_head, too_large}
use Rattle.sc_model.specs.Replies.{text_of}
use Rattle.sc_cores.specs.Cores.{Outside}
use Rattle.sc_seen.specs.Seen.{Layout, Extends, AreLegal}
use Rattle.sc_seen.specs.Batches.{GivesTimestamps}
use Rattle.sc_seen.specs.Moments.{Moment}
use Rattle.sc_gate.specs.Gates.{Gated, StillKeeps}
use Rattle.sc_session.specs.Commands.{situation}
use Rattle.sc_session.specs.Answers.{Answer, replied, ran_out}
use Rattle.sc_session.specs.declared.end.End.{End}
use Rattle.sc_session.specs.declared.end.End.TheVariants as ends
use Rattle.sc_session.specs.Connection.{GateOutcome, kept, log_failed, no_memory, Exchange, IsKept, IsLogFailed, reply_of_exchange, Last, ended, answered, out_of_memory, read_failed, exchanges_of, AreExchanges, LeaveRest, stops_of, timestamps_of, texts_of, end_after, end_of, last_text, EndsWith, IsReadFrom, HasEnd, IsWritten}
use Rattle.sc_session.specs.States.{ConnectionState, CountsFault, world_of, situation_in}
use Rattle.sc_session.specs.Served.{LeavesTraces, IsServed}
use Rattle.sc_session.specs.Serving.{Exchanges, Writes, EndsWriting}
use Rattle.sc_session.proofs.OpenLemmas.{IsOpen, HasRead, without_source, traces_after, end_same, read_after, some_of}

-- no answer ends a connection by a fault of the sink or of the source
answer_end : (end : End) (answer : Answer) (gate : GateOutcome) (close full : Bool) → end_after answer gate close full ≡ Some end → (end ≢ ends.WriteFault) × (end ≢ ends.ReadFault)
answer_end end (replied reply) kept false false e = absurd (cc)
answer_end end (replied reply) kept false true e = ((λ h. absurd (cc)), (λ h. absurd (cc)))
answer_end end (replied reply) kept true full e = ((λ h. absurd (cc)), (λ h. absurd (cc)))
answer_end end (replied reply) log_failed close full e = ((λ h. absurd (cc)), (λ h. absurd (cc)))
answer_end end (replied reply) no_memory close full e = ((λ h. absurd (cc)), (λ h. absurd (cc)))
answer_end end ran_out gate close full e = ((λ h. absurd (cc)), (λ h. absurd (cc)))

-- where a connection ends as what a request made could not be kept, its gate failed
log_end : (answer : Answer) (gate : GateOutcome) (close full : Bool) → end_after answer gate close full ≡ Some ends.LogFault → gate ≡ log_failed
log_end (replied reply) kept false false e = absurd (cc)
log_end (replied reply) kept false true e = absurd (cc)
log_end (replied reply) kept true full e = absurd (cc)
log_end (replied reply) log_failed close full e = refl
log_end (replied reply) no_memory close full e = absurd (cc)
log_end ran_out gate close full e = absurd (cc)

ending_end : (before : List Exchange) (e : Ending) → end_of before (ended e) ≢ Some ends.WriteFault
ending_end before done h = absurd (cc)
ending_end before cut h = absurd (cc)
ending_end before bad_head h = absurd (cc)
ending_end before too_large h = absurd (cc)

-- no last exchange ends a connection by a fault of the sink
no_fault : (before : List Exchange) (last : Last) → end_of before last ≢ Some ends.WriteFault
no_fault before (ended e) h = ending_end before e h
no_fault before (answered x) h = (answer_end ends.WriteFault x.answer x.gate x.request.close _ h).0 refl
no_fault before out_of_memory h = absurd (cc)
no_fault before read_failed h = absurd (cc)

-- what was written before, and then the last text or a prefix of it
written_last : (end : End) (before : List Exchange) (last : Last) (old mid new : Option (List ℕ)) → Writes (texts_of before) old mid
    → EndsWriting (Some end) (end_of before last) (last_text before last) mid new
    → IfSome old (λ bytes. (more : List ℕ) × (new ≡ Some more) × IsWritten end before last bytes more)
written_last end before last None mid new w e = tt
written_last end before last (Some bytes) mid new w e = elim e [
  | inl whole ↦
      (let all : new ≡ Some ((bytes ++ texts_of before) ++ last_text before last) = subst (λ (o : Option (List ℕ)). IfSome o (λ (xs : List ℕ). new ≡ Some (xs ++ last_text before last))) w whole.1 in
      ((bytes ++ texts_of before) ++ last_text before last, all, inl ((λ fault. no_fault before last (sym whole.0 ∙ ap Some fault)), refl)))
  | inr part ↦
      (let added : AddsPrefix (bytes ++ texts_of before) (last_text before last) new = subst (λ (o : Option (List ℕ)). IfSome o (λ (xs : List ℕ). AddsPrefix xs (last_text before last) new)) w part.1 in
      let fault : end ≡ ends.WriteFault = (let same : Some end ≡ Some ends.WriteFault = part.0 in cc) in
      ((bytes ++ texts_of before) ++ added.prefix, added.added, inr (fault, (added.prefix, (added.left, sym added.whole), refl))))
]

-- a connection that ends so, or by a fault of the sink
ends_so : (end : End) (before : List Exchange) (last : Last) (text : List ℕ) (old new : Option (List ℕ)) → EndsWriting (Some end) (end_of before last) text old new → HasEnd end before last
ends_so end before last text old new e = elim e [
  | inl whole ↦ inl (sym whole.0)
  | inr part ↦ (let same : Some end ≡ Some ends.WriteFault = part.0 in let fault : end ≡ ends.WriteFault = cc in inr fault)
]

-- a connection that ends without an exchange
abbrev pub IsPlain : Last → Type 0
IsPlain (answered x) = ⊥
IsPlain last = Unit {0}

plain_exchanges : (last : Last) → IsPlain last → exchanges_of last ≡ []
plain_exchanges (ended e) p = refl
plain_exchanges (answered x) p = absurd p
plain_exchanges out_of_memory p = refl
plain_exchanges read_failed p = refl

-- its end and its last text are the same after any exchanges
plain_end : (before : List Exchange) (last : Last) → IsPlain last → end_of [] last ≡ end_of before last
plain_end before (ended done) p = refl
plain_end before (ended cut) p = refl
plain_end before (ended bad_head) p = refl
plain_end before (ended too_large) p = refl
plain_end before (answered x) p = absurd p
plain_end before out_of_memory p = refl
plain_end before read_failed p = refl

plain_text : (before : List Exchange) (last : Last) → IsPlain last → last_text [] last ≡ last_text before last
plain_text before (ended done) p = refl
plain_text before (ended cut) p = refl
plain_text before (ended bad_head) p = refl
plain_text before (ended too_large) p = refl
plain_text before (answered x) p = absurd p
plain_text before out_of_memory p = refl
plain_text before read_failed p = refl

-- it is by no failure of the gate
plain_kept : (last : Last) → IsPlain last → IsLogFailed last → ⊥
plain_kept (ended e) p failed = failed
plain_kept (answered x) p failed = absurd p
plain_kept out_of_memory p failed = failed
plain_kept read_failed p failed = failed

plain_no_log : (before : List Exchange) (last : Last) → IsPlain last → end_of before last ≢ Some ends.LogFault
plain_no_log before (ended done) p h = absurd (cc)
plain_no_log before (ended cut) p h = absurd (cc)
plain_no_log before (ended bad_head) p h = absurd (cc)
plain_no_log before (ended too_large) p h = absurd (cc)
plain_no_log before (answered x) p h = absurd p
plain_no_log before out_of_memory p h = absurd (cc)
plain_no_log before read_failed p h = absurd (cc)

-- a count goes on from one that stayed
counts_on : {fault : Type 0} (old mid new : ℕ) → mid ≡ old → CountsFault fault mid new → CountsFault fault old new
counts_on {fault} old mid new same c = subst (λ n. CountsFault fault n new) same c

-- an open connection that ends without an exchange more keeps what it promises
pub served_at_end : {C : Type 0} (gives : C → ℕ → C → Type 0) (layout : Layout) (before now then : ConnectionState C) (held : List ℕ) (last : Last) (end : End)
    → IsOpen gives layout before now held → IsPlain last → AreLegal layout now.moment.view.seen → then.moment ≡ now.moment → then.outside ≡ now.outside → then.requests ≡ now.requests
    → then.gate ≡ now.gate
    → (IsSome now.unread → IsSome then.unread) → IfSome now.unread (λ bytes. IfSome then.unread (λ more. EndsWith (held ++ bytes) last more))
    → EndsWriting (Some end) (end_of [] last) (last_text [] last) now.written then.written
    → CountsFault (end ≡ ends.ReadFault) now.read_faults then.read_faults → CountsFault (end ≡ ends.WriteFault) now.write_faults then.write_faults
    → IsServed gives layout before then end
served_at_end {C} gives layout before now then held last end open_ plain legal moment outside count gate reports ends_with writes read_faults write_faults =
    record {
      exchanges = xs;
      last = last;
      stays_open = open_.stays_open;
      traces = subst (LeavesTraces gives layout before then) (sym (ap (λ (more : List Exchange). xs ++ more) (plain_exchanges last plain) ∙ append-nil xs)) traces;
      carries = record {
        requests = reads before.unread open_.read;
        replies = written_last end xs last before.written now.written then.written open_.wrote text;
        end_is = so;
        read_faults = counts_on before.read_faults now.read_faults then.read_faults open_.read_faults read_faults;
        write_faults = counts_on before.write_faults now.write_faults then.write_faults open_.write_faults write_faults;
        log_faults = record {
          rises = λ failed. absurd (plain_kept last plain failed);
          stays = λ other. ap (λ (one : Gated). one.faults) gate ∙ open_.log_faults;
        };
        log_fault = λ is. absurd (not_log is);
      };
      legal = subst (λ (m : Moment C). AreLegal layout m.view.seen) (sym moment) legal;
    }
  where
    xs : List Exchange
    xs = open_.exchanges

    text : EndsWriting (Some end) (end_of xs last) (last_text xs last) now.written then.written
    text = subst (λ (e : Option End). EndsWriting (Some end) e (last_text xs last) now.written then.written) (plain_end xs last plain)
        (subst (λ (bytes : List ℕ). EndsWriting (Some end) (end_of [] last) bytes now.written then.written) (plain_text xs last plain) writes)

    so : HasEnd end xs last
    so = ends_so end xs last (last_text xs last) now.written then.written text

    not_log : end ≢ ends.LogFault
    not_log is = elim so [
      | inl whole ↦ plain_no_log xs last plain (whole ∙ ap Some is)
      | inr fault ↦ (let other : ends.LogFault ≡ ends.WriteFault = sym is ∙ fault in absurd (cc))
    ]

    traces : LeavesTraces gives layout before then xs
    traces = record {
      each = subst (λ (m : Moment C). AreExchanges layout before.moment.view.seen xs m.view.seen) (sym moment) open_.traces.each;
      rest = subst (λ (m : Moment C). LeaveRest layout (situation_in (world_of before)) xs (situation m.view.seen then.outside)) (sym moment)
          (subst (λ (o : Outside). LeaveRest layout (situation_in (world_of before)) xs (situation now.moment.view.seen o)) (sym outside) open_.traces.rest);
      journals = subst (λ (m : Moment C). Extends layout before.moment.view.seen m.view.seen (stops_of xs)) (sym moment) open_.traces.journals;
      stops = ap (λ (m : Moment C). m.view.stops) moment ∙ open_.traces.stops;
      requests = count ∙ open_.traces.requests;
      timestamps = subst (λ (m : Moment C). GivesTimestamps gives before.moment.clock (timestamps_of xs) m.clock) (sym moment) open_.traces.timestamps;
      keeps = subst (λ (one : Gated). AllByRecursion (λ (x : Exchange). x.gate ≡ kept → IsKept layout x.seen one x.trace.stops) xs) (sym gate) open_.traces.keeps;
      stays = subst (StillKeeps before.gate) (sym gate) open_.traces.stays;
      alone = open_.traces.alone;
    }

    reads : (o : Option (List ℕ)) → IfSome o (λ bytes. (more : List ℕ) × (now.unread ≡ Some more) × ReadsMessages bytes (map (λ (y : Exchange). y.request) xs) (held ++ more))
        → IfSome o (λ bytes. (more : List ℕ) × (then.unread ≡ Some more) × IsReadFrom bytes more xs last)
    reads None r = tt
    reads (Some bytes) r =
        let some : (x : List ℕ) × (then.unread ≡ Some x) = some_of then.unread (reports (rw r.1 refl)) in
        let here : IfSome then.unread (λ more. EndsWith (held ++ r.0) last more) = subst (λ (o : Option (List ℕ)). IfSome o (λ bs. IfSome then.unread (λ more. EndsWith (held ++ bs) last more))) r.1 ends_with in
        let end_here : EndsWith (held ++ r.0) last some.0 = subst (λ (o : Option (List ℕ)). IfSome o (λ more. EndsWith (held ++ r.0) last more)) some.1 here in
        (some.0, some.1, record { rest = held ++ r.0; requests = r.2; end = end_here })

-- an open connection that an exchange ends keeps what it promises
pub served_at_exchange : {C : Type 0} (gives : C → ℕ → C → Type 0) (layout : Layout) (before now then : ConnectionState C) (held next : List ℕ) (request : Incoming) (end : End)
    → IsOpen gives layout before now held
    → Exchanges gives layout request (without_source now) (without_source then) (Some end) → AreLegal layout then.moment.view.seen
    → (IsSome now.unread → IsSome then.unread) → IfSome now.unread (λ bytes. IfSome then.unread (λ more. ReadsMessage (held ++ bytes) request (next ++ more)))
    → then.read_faults ≡ now.read_faults
    → IsServed gives layout before then end
served_at_exchange gives layout before now then held next request end open_ step legal reports message steady =
    record {
      exchanges = xs;
      last = answered step.exchange;
      stays_open = open_.stays_open;
      traces = traces_after gives layout before now then held next request (Some end) open_ step;
      carries = record {
        requests = reads before.unread (read_after gives layout before now then held next request (Some end) open_ step reports message);
        replies = written_last end xs (answered step.exchange) before.written now.written then.written open_.wrote text;
        end_is = ends_so end xs (answered step.exchange) (last_text xs (answered step.exchange)) now.written then.written text;
        read_faults = record { rises = λ fault. absurd (no_read_fault fault); stays = λ none. steady ∙ open_.read_faults };
        write_faults = counts_on before.write_faults now.write_faults then.write_faults open_.write_faults (record {
          rises = λ fault. step.write_faults.rises (ap Some fault);
          stays = λ none. step.write_faults.stays (λ fault. none (cc));
        });
        log_faults = logs;
        log_fault = λ is. logs.rises (log_failed_at is);
      };
      legal = legal;
    }
  where
    xs : List Exchange
    xs = open_.exchanges

    text : EndsWriting (Some end) (end_of xs (answered step.exchange)) (last_text xs (answered step.exchange)) now.written then.written
    text = subst (λ (e : Option End). EndsWriting (Some end) e (text_of (reply_of_exchange step.exchange) (is_some e)) now.written then.written)
        (end_same gives layout before now then held next request (Some end) open_ step) step.responds

    logs : CountsFault (step.exchange.gate ≡ log_failed) before.gate.faults then.gate.faults
    logs = counts_on before.gate.faults now.gate.faults then.gate.faults open_.log_faults step.passes.faults

    log_failed_at : end ≡ ends.LogFault → step.exchange.gate ≡ log_failed
    log_failed_at is = elim step.responds [
      | inl whole ↦ log_end step.exchange.answer step.exchange.gate step.exchange.request.close _ (sym whole.0 ∙ ap Some is)
      | inr part ↦ (let same : Some ends.LogFault ≡ Some ends.WriteFault = sym (ap Some is) ∙ part.0 in absurd (cc))
    ]

    no_read_fault : end ≢ ends.ReadFault
    no_read_fault fault = elim step.responds [
      | inl whole ↦ (answer_end end step.exchange.answer step.exchange.gate step.exchange.request.close _ (sym whole.0)).1 fault
      | inr part ↦ (let same : Some end ≡ Some ends.WriteFault = part.0 in absurd (cc))
    ]

    reads : (o : Option (List ℕ)) → HasRead o then.unread xs step.exchange.request next
        → IfSome o (λ bytes. (more : List ℕ) × (then.unread ≡ Some more) × IsReadFrom bytes more xs (answered step.exchange))
    reads None r = tt
    reads (Some bytes) r = (r.1, r.2, record { rest = r.0; requests = r.3; end = (next ++ r.1, r.4) })
