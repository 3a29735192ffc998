-- A connection from one request to the next.
use Rattle.std.proofs.Common.{◌≡◌, ℕ, false, List, [], ◌∷◌, ◌++◌, length, Option, Some, None, refl, sym, ap, ◌∙◌, subst, arith, append_assoc, length-append}
use Rattle.std.specs.Prelude.{map, IfSome, IsSome}
use Rattle.std.proofs.ByRecursion.{All-append, All-weaker}
use Rattle.std.proofs.lemmas.List.{append-nil}
use Rattle.std.proofs.lemmas.Grind.{flat_map-append}
use Rattle.sc_model.specs.declared.message.Incoming.{Incoming}
use Rattle.sc_model.specs.Messages.{ReadsMessage, ReadsMessages}
use Rattle.sc_cores.specs.Cores.{Outside}
use Rattle.sc_seen.specs.Seen.{Layout, Seen, Extends}
use Rattle.sc_seen.specs.Moments.{moment_of}
use Rattle.sc_seen.specs.Batches.{GivesTimestamps}
use Rattle.sc_seen.specs.declared.stop.Stop.{Stop}
use Rattle.sc_collection.specs.Kept.{Kept, are_enough}
use Rattle.sc_session.specs.declared.end.End.{End}
use Rattle.sc_session.specs.Commands.{Situation, situation, Leaves}
use Rattle.sc_session.specs.Connection.{Exchange, kept, IsExchange, IsKept, AreExchanges, LeaveRest, situation_after, situation_passed, StaysOpen, stops_of, timestamps_of, texts_of, end_after, end_at}
use Rattle.sc_session.specs.States.{ConnectionState, world_of, situation_in}
use Rattle.sc_session.specs.Served.{LeavesTraces}
use Rattle.sc_session.specs.Serving.{Exchanges, Writes, end_by}
use Rattle.sc_seen.proofs.ExtendsLemmas.{Extends-none, Extends-then}
use Rattle.sc_gate.specs.Gates.{Gated, StillKeeps}
use Rattle.sc_gate.proofs.GateLemmas.{SeesOnly-extends, StillKeeps-self, StillKeeps-then, KeepsStops-on, KeepsCommits-on, KeepsAll-on}

-- what stands beside a connection, by its parts
abbrev pub beside : {C : Type 0} → Seen → C → Outside → Kept → (unread written : Option (List ℕ)) → (read_faults write_faults : ℕ) → Gated → ConnectionState C
beside seen clock outside trail unread written read_faults write_faults gate = record {
  moment = moment_of seen trail.stops clock;
  outside = outside;
  requests = trail.requests;
  unread = unread;
  written = written;
  read_faults = read_faults;
  write_faults = write_faults;
  gate = gate;
}

-- what stands beside a connection, but for its source
abbrev pub without_source : {C : Type 0} → ConnectionState C → ConnectionState C
without_source state = record { moment = state.moment; outside = state.outside; requests = state.requests; unread = None; written = state.written; read_faults = 0; write_faults = state.write_faults; gate = state.gate }

-- A connection that is open since one moment: its requests so far were read, answered and written, and `held` is what its
-- reader has of the bytes that come next.
pub record IsOpen {C : Type 0} (gives : C → ℕ → C → Type 0) (layout : Layout) (before now : ConnectionState C) (held : List ℕ) : Type 0 where
  pub exchanges : List Exchange
  pub stays_open : StaysOpen exchanges
  pub traces : LeavesTraces gives layout before now exchanges
  pub more : are_enough now.requests (length now.moment.view.stops) ≡ false
  pub read : IfSome before.unread (λ bytes. (more : List ℕ) × (now.unread ≡ Some more) × ReadsMessages bytes (map (λ (x : Exchange). x.request) exchanges) (held ++ more))
  pub wrote : Writes (texts_of exchanges) before.written now.written
  pub read_faults : now.read_faults ≡ before.read_faults
  pub write_faults : now.write_faults ≡ before.write_faults
  pub log_faults : now.gate.faults ≡ before.gate.faults

written_none : (old : Option (List ℕ)) → Writes [] old old
written_none None = tt
written_none (Some bytes) = ap Some (sym (append-nil bytes))

read_none : (unread : Option (List ℕ)) → IfSome unread (λ bytes. (more : List ℕ) × (unread ≡ Some more) × ReadsMessages bytes [] ([] ++ more))
read_none None = tt
read_none (Some bytes) = (bytes, refl, refl)

none_between : (before : List Exchange) (x : Exchange) (after : List Exchange) → [] ≡ before ++ x ∷ after → end_at before x ≡ None
none_between [] x after h = absurd (cc)
none_between (b ∷ before) x after h = absurd (cc)

-- a connection begins open
pub open_first : {C : Type 0} (gives : C → ℕ → C → Type 0) (layout : Layout) (now : ConnectionState C) → now.moment.view.stops ≡ [] → now.requests ≡ 0
    → IsOpen gives layout now now []
open_first gives layout now stops requests = record {
  exchanges = [];
  stays_open = none_between;
  traces = record {
    each = refl;
    rest = refl;
    journals = Extends-none layout now.moment.view.seen;
    stops = stops;
    requests = requests;
    timestamps = refl;
    keeps = tt;
    stays = StillKeeps-self now.gate;
    alone = λ none. tt;
  };
  more = ap (λ n. are_enough n (length now.moment.view.stops)) requests ∙ ap (λ (ss : List Stop). are_enough 0 (length ss)) stops;
  read = read_none now.unread;
  wrote = written_none now.written;
  read_faults = refl;
  write_faults = refl;
  log_faults = refl;
}

-- one request more was read
pub reads_more : (bytes : List ℕ) (requests : List Incoming) (between : List ℕ) (request : Incoming) (rest : List ℕ) → ReadsMessages bytes requests between → ReadsMessage between request rest → ReadsMessages bytes (requests ++ request ∷ []) rest
reads_more bytes [] between request rest r m = (rest, subst (λ (b : List ℕ). ReadsMessage b request rest) (sym r) m, refl)
reads_more bytes (first ∷ requests) between request rest r m = (r.0, r.1, reads_more r.0 requests between request rest r.2 m)

-- writing goes on
pub writes_then : (one two : List ℕ) (a b c : Option (List ℕ)) → Writes one a b → Writes two b c → Writes (one ++ two) a c
writes_then one two None b c w v = tt
writes_then one two (Some bytes) b c w v =
    let second : c ≡ Some ((bytes ++ one) ++ two) = subst (λ (o : Option (List ℕ)). IfSome o (λ (xs : List ℕ). c ≡ Some (xs ++ two))) w v in
    second ∙ ap Some (append_assoc bytes one two)

-- the clock goes on
timestamps-append : {C : Type 0} (gives : C → ℕ → C → Type 0) (a b c : C) (xs ys : List ℕ) → GivesTimestamps gives a xs b → GivesTimestamps gives b ys c → GivesTimestamps gives a (xs ++ ys) c
timestamps-append gives a b c [] ys g h = subst (λ z. GivesTimestamps gives z ys c) g h
timestamps-append gives a b c (x ∷ xs) ys g h = (g.0, g.1, timestamps-append gives g.0 b c xs ys g.2 h)

pub some_of : {A : Type 0} (o : Option A) → IsSome o → (x : A) × (o ≡ Some x)
some_of None h = absurd (cc)
some_of (Some x) h = (x, refl)

stops_of-push : (exchanges : List Exchange) (x : Exchange) → stops_of (exchanges ++ x ∷ []) ≡ stops_of exchanges ++ x.trace.stops
stops_of-push exchanges x = flat_map-append (λ (y : Exchange). y.trace.stops) exchanges (x ∷ []) ∙ ap (λ (ss : List Stop). stops_of exchanges ++ ss) (append-nil x.trace.stops)

timestamps_of-push : (exchanges : List Exchange) (x : Exchange) → timestamps_of (exchanges ++ x ∷ []) ≡ timestamps_of exchanges ++ x.trace.timestamps
timestamps_of-push exchanges x = flat_map-append (λ (y : Exchange). y.trace.timestamps) exchanges (x ∷ []) ∙ ap (λ (ms : List ℕ). timestamps_of exchanges ++ ms) (append-nil x.trace.timestamps)

-- one exchange more, after those that led to what was seen
push : (layout : Layout) (old : Seen) (exchanges : List Exchange) (between : Seen) (x : Exchange) (new : Seen) → AreExchanges layout old exchanges between
    → IsExchange layout between x → x.passed ≡ new → AreExchanges layout old (exchanges ++ x ∷ []) new
push layout old [] between x new are is same = (subst (λ (seen : Seen). IsExchange layout seen x) are is, sym same)
push layout old (y ∷ exchanges) between x new are is same = (are.0, push layout y.passed exchanges between x new are.1 is same)

-- what one more left, after what those left
push_rest : (layout : Layout) (old : Situation) (exchanges : List Exchange) (between : Situation) (x : Exchange) (new : Situation) → LeaveRest layout old exchanges between
    → Leaves layout x.trace.answers x.trace.stops x.trace.command between (situation_after x) → situation_passed x ≡ new → LeaveRest layout old (exchanges ++ x ∷ []) new
push_rest layout old [] between x new are leaves same =
    (subst (λ (now : Situation). Leaves layout x.trace.answers x.trace.stops x.trace.command now (situation_after x)) are leaves, sym same)
push_rest layout old (y ∷ exchanges) between x new are leaves same = (are.0, push_rest layout (situation_passed y) exchanges between x new are.1 leaves same)

-- what a gate keeps of a request it goes on to keep
kept_on : (layout : Layout) (seen : Seen) (old new : Gated) (stops : List Stop) → StillKeeps old new → IsKept layout seen old stops → IsKept layout seen new stops
kept_on layout seen old new stops still is = record {
  entries = KeepsStops-on layout seen old new stops still is.entries;
  commits = KeepsCommits-on layout seen old new stops still is.commits;
  all = λ stop there noted. KeepsAll-on layout seen old new still (is.all stop there noted);
}

-- what was read up to a request that came
abbrev pub HasRead : (before then : Option (List ℕ)) → List Exchange → Incoming → List ℕ → Type 0
HasRead before then exchanges request next = IfSome before (λ bytes. (between more : List ℕ) × (then ≡ Some more)
    × ReadsMessages bytes (map (λ (x : Exchange). x.request) exchanges) between × ReadsMessage between request (next ++ more))

-- one exchange of an open connection
module _ {C : Type 0} (gives : C → ℕ → C → Type 0) (layout : Layout) (before now then : ConnectionState C) (held next : List ℕ) (request : Incoming) (end : Option End)
    (open_ : IsOpen gives layout before now held)
    (step : Exchanges gives layout request (without_source now) (without_source then) end) where
  extends : Extends layout now.moment.view.seen then.moment.view.seen step.exchange.trace.stops
  extends = subst (λ (seen : Seen). Extends layout now.moment.view.seen seen step.exchange.trace.stops) step.passed_is
      (subst (λ (ss : List Stop). Extends layout now.moment.view.seen step.exchange.passed ss) (append-nil step.exchange.trace.stops)
      (Extends-then layout now.moment.view.seen step.exchange.seen step.exchange.passed step.exchange.trace.stops [] step.is.extends
      (SeesOnly-extends layout step.exchange.seen step.exchange.passed step.is.met)))

  -- what stands once it is over
  stands : situation_passed step.exchange ≡ situation_in (world_of then)
  stands = ap (λ (seen : Seen). situation seen step.exchange.outside) step.passed_is ∙ ap (situation then.moment.view.seen) step.outside_is

  -- what it leaves, after those before it
  pub traces_after : LeavesTraces gives layout before then (open_.exchanges ++ step.exchange ∷ [])
  traces_after = record {
    each = push layout before.moment.view.seen open_.exchanges now.moment.view.seen step.exchange then.moment.view.seen open_.traces.each step.is step.passed_is;
    rest = push_rest layout (situation_in (world_of before)) open_.exchanges (situation_in (world_of now)) step.exchange (situation_in (world_of then)) open_.traces.rest step.leaves stands;
    journals = subst (Extends layout before.moment.view.seen then.moment.view.seen) (sym (stops_of-push open_.exchanges step.exchange))
        (Extends-then layout before.moment.view.seen now.moment.view.seen then.moment.view.seen (stops_of open_.exchanges) step.exchange.trace.stops open_.traces.journals extends);
    stops = step.stops ∙ ap (λ (ss : List Stop). ss ++ step.exchange.trace.stops) open_.traces.stops ∙ sym (stops_of-push open_.exchanges step.exchange);
    requests = omega (arith, length-append open_.exchanges (step.exchange ∷ []), step.requests, open_.traces.requests);
    timestamps = subst (λ (ms : List ℕ). GivesTimestamps gives before.moment.clock ms then.moment.clock) (sym (timestamps_of-push open_.exchanges step.exchange))
        (timestamps-append gives before.moment.clock now.moment.clock then.moment.clock (timestamps_of open_.exchanges) step.exchange.trace.timestamps open_.traces.timestamps step.timestamps);
    keeps = All-append (λ (x : Exchange). x.gate ≡ kept → IsKept layout x.seen then.gate x.trace.stops) open_.exchanges (step.exchange ∷ [])
        (All-weaker (λ (x : Exchange). x.gate ≡ kept → IsKept layout x.seen now.gate x.trace.stops)
        (λ (x : Exchange). x.gate ≡ kept → IsKept layout x.seen then.gate x.trace.stops)
        (λ x here is. kept_on layout x.seen now.gate then.gate x.trace.stops step.passes.stays (here is)) open_.exchanges open_.traces.keeps)
        (step.passes.kept_is, tt);
    stays = StillKeeps-then before.gate now.gate then.gate open_.traces.stays step.passes.stays;
    alone = λ none. All-append (λ (x : Exchange). x.passed ≡ x.seen) open_.exchanges (step.exchange ∷ []) (open_.traces.alone none)
        (step.passes.alone (open_.traces.stays.meets ∙ none), tt);
  }

  -- how the connection ends after it, by the exchanges and by what stands beside it
  pub end_same : end_by step.exchange (without_source then) ≡ end_at open_.exchanges step.exchange
  end_same =
      ap (λ n. end_after step.exchange.answer step.exchange.gate step.exchange.request.close (are_enough n (length then.moment.view.stops))) traces_after.requests
      ∙ ap (λ (ss : List Stop). end_after step.exchange.answer step.exchange.gate step.exchange.request.close (are_enough (length (open_.exchanges ++ step.exchange ∷ [])) (length ss))) traces_after.stops

  -- what was read, with this request
  pub read_after : (IsSome now.unread → IsSome then.unread) → IfSome now.unread (λ bytes. IfSome then.unread (λ more. ReadsMessage (held ++ bytes) request (next ++ more)))
      → HasRead before.unread then.unread open_.exchanges step.exchange.request next
  read_after reports message = at before.unread open_.read
    where
      at : (o : Option (List ℕ)) → IfSome o (λ bytes. (more : List ℕ) × (now.unread ≡ Some more) × ReadsMessages bytes (map (λ (y : Exchange). y.request) open_.exchanges) (held ++ more))
          → HasRead o then.unread open_.exchanges step.exchange.request next
      at None r = tt
      at (Some bytes) r =
          let some : (x : List ℕ) × (then.unread ≡ Some x) = some_of then.unread (reports (rw r.1 refl)) in
          let here : IfSome then.unread (λ more. ReadsMessage (held ++ r.0) request (next ++ more)) = subst (λ (o : Option (List ℕ)). IfSome o (λ bytes. IfSome then.unread (λ more. ReadsMessage (held ++ bytes) request (next ++ more)))) r.1 message in
          let read : ReadsMessage (held ++ r.0) request (next ++ some.0) = subst (λ (o : Option (List ℕ)). IfSome o (λ more. ReadsMessage (held ++ r.0) request (next ++ more))) some.1 here in
          (held ++ r.0, some.0, some.1, r.2, subst (λ (q : Incoming). ReadsMessage (held ++ r.0) q (next ++ some.0)) (sym step.request_is) read)
