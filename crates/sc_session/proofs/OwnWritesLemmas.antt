-- The write of an accepted order stands in all that is seen after its exchange, and is the last of its id there or followed by a later one.
use Rattle.std.proofs.Common.{◌≡◌, ℕ, zero, suc, ◌+◌, ◌-◌, ◌<◌, ◌≤◌, inl, inr, Bool, true, false, cond, List, [], ◌∷◌, ◌++◌, length, take, drop, Option, Some, None, refl, sym, ap, ◌∙◌, subst, arith, append_assoc, Contains}
use Rattle.std.specs.Prelude.{◌≤ℤ◌, ◌==◌, ℤ, IsSome}
use Rattle.std.specs.List.{filter, cons_option}
use Rattle.std.proofs.lemmas.Bool.Decides.{nat_tests}
use Rattle.std.proofs.lemmas.Grind.{flat_map-append}
use Rattle.std.proofs.lemmas.List.{take-append-drop, length-take, length-take-le}
use Rattle.std.proofs.lemmas.List.Elements.{All-contains, All-from_recursion, Contains-append_left, Contains-append_right}
use Rattle.std.proofs.lemmas.Nat.{and_le_r}
use Rattle.sc_hash.specs.Hash.{murmur3}
use Rattle.sc_record.specs.Versions.{shown_version}
use Rattle.sc_record.specs.Writes.{is_of, Write}
use Rattle.sc_record.specs.declared.entry.Entry.{Entry}
use Rattle.sc_router.specs.Route.{bucket_of}
use Rattle.sc_commands.specs.declared.batch.Batch.{Batch}
use Rattle.sc_update.specs.Updated.{UpdateEnd}
use Rattle.sc_journal.specs.Journal.{write_at, writes_of, last_write}
use Rattle.sc_journal.specs.Legal.{IsLegal}
use Rattle.sc_journal.specs.Outcomes.{Outcome, accepted, IsOutcome}
use Rattle.sc_seen.specs.Seen.{Layout, Seen, SeesMore, IsStopWithin, ComeInOrder, AreLegal, basis_of, place_after, journal_at, stops_at, entries_at}
use Rattle.sc_seen.specs.Batches.{OrderAnswer, IsOrderAnswer, HasStops, order_stops}
use Rattle.sc_seen.specs.Commits.{commit_stops}
use Rattle.sc_seen.specs.declared.stop.Stop.{Stop}
use Rattle.sc_journal.proofs.ListLemmas.{split_at}
use Rattle.sc_journal.proofs.JournalLemmas.{is_of_from_id, writes_of-append, write_at-append, write_at_within, last_write_none}
use Rattle.sc_journal.proofs.LegalLemmas.{IsLegal-prefix}
use Rattle.sc_journal.proofs.VersionLemmas.{legal_newest}
use Rattle.sc_seen.proofs.ExtendsLemmas.{IsPrefix-length, entries-grow, entries-bucket}
use Rattle.sc_seen.proofs.GoesOnLemmas.{SeesMore-self, SeesMore-then}
use Rattle.sc_gate.proofs.GateLemmas.{SeesOnly-more}
use Rattle.sc_admin.specs.Commands.{split, status, delete}
use Rattle.sc_session.specs.Requests.{Asked, asked, refused, update, get, get_ids, select, command}
use Rattle.sc_session.specs.Answers.{Answer, replied, ran_out, Trace, IsAnswer, EndsBatch, read_trace}
use Rattle.sc_session.specs.Connection.{Exchange, IsExchange, AreExchanges}
use Rattle.sc_session.specs.Laws.{AcceptsOrderFor, IsLastSince}
use Rattle.sc_session.proofs.SeesLemmas.{exchange_sees, sees_on}

-- one of several exchanges comes after what was seen after those before it
one_of : (layout : Layout) (old : Seen) (before : List Exchange) (x : Exchange) (after : List Exchange) (new : Seen)
    → AreExchanges layout old (before ++ x ∷ after) new
    → (seen : Seen) × SeesMore old seen × IsExchange layout seen x × AreExchanges layout x.passed after new
one_of layout old [] x after new are = (old, SeesMore-self old, are.0, are.1)
one_of layout old (y ∷ before) x after new are =
    let rest = one_of layout y.passed before x after new are.1 in
    (rest.0, SeesMore-then old y.passed rest.0 (exchange_sees layout old y are.0) rest.1, rest.2, rest.3)

-- a trace without answers to orders has none
no_order : (trace : Trace) (one : OrderAnswer) → trace.answers ≡ [] → Contains trace.answers one → ⊥
no_order trace one is given =
    let none : Contains [] one = subst (λ (answers : List OrderAnswer). Contains answers one) is given in by none
  where
    by : Contains [] one → ⊥
    by (k, below, same) = omega arith

-- nor does a trace of reads
no_answer : (trace : Trace) (stops : List Stop) (one : OrderAnswer) → trace ≡ read_trace stops → Contains trace.answers one → ⊥
no_answer trace stops one is given = no_order trace one (ap (λ (t : Trace). t.answers) is) given

-- a trace that has an answer to an order is that of a batch
of_batch : (layout : Layout) (seen : Seen) (what : Asked) (trace : Trace) (answer : Answer) (one : OrderAnswer)
    → IsAnswer layout seen what trace answer → Contains trace.answers one
    → (batch : Batch) × (how : UpdateEnd) × EndsBatch layout seen batch trace how
of_batch layout seen (refused refusal) trace (replied reply) one is given = absurd (no_answer trace [] one is.0 given)
of_batch layout seen (refused refusal) trace ran_out one is given = absurd (no_answer trace [] one is given)
of_batch layout seen (update what) trace (replied reply) one is given = (is.0, is.1, is.3)
of_batch layout seen (update what) trace ran_out one (inl none) given = absurd (no_answer trace [] one none given)
of_batch layout seen (update what) trace ran_out one (inr is) given = (is.0, is.1, is.3)
of_batch layout seen (get id) trace (replied reply) one is given = absurd (no_answer trace (is.0 ∷ []) one is.1.trace_is given)
of_batch layout seen (get id) trace ran_out one is given = absurd (no_answer trace is.0 one is.1.trace_is given)
of_batch layout seen (get_ids ids) trace (replied reply) one is given = absurd (no_answer trace is.0 one is.1.trace_is given)
of_batch layout seen (get_ids ids) trace ran_out one is given = absurd (no_answer trace is.0 one is.1.trace_is given)
of_batch layout seen (select ask) trace (replied reply) one (inl bad) given = absurd (no_answer trace [] one bad.2 given)
of_batch layout seen (select ask) trace (replied reply) one (inr is) given = absurd (no_answer trace is.search.stops one is.trace_is given)
of_batch layout seen (select ask) trace ran_out one is given = absurd (no_answer trace is.0 one is.3 given)
of_batch layout seen (command status) trace (replied reply) one is given = absurd (no_answer trace (is.0 ∷ []) one is.1.trace_is given)
of_batch layout seen (command status) trace ran_out one (inl none) given = absurd (no_answer trace [] one none given)
of_batch layout seen (command status) trace ran_out one (inr is) given = absurd (no_answer trace (is.0 ∷ []) one is.1.trace_is given)
of_batch layout seen (command (split shard pieces)) trace (replied reply) one is given = absurd (no_order trace one (ap (λ (t : Trace). t.answers) is.1.trace_is) given)
of_batch layout seen (command (split shard pieces)) trace ran_out one (inl none) given = absurd (no_answer trace [] one none given)
of_batch layout seen (command (split shard pieces)) trace ran_out one (inr is) given = absurd (no_order trace one (ap (λ (t : Trace). t.answers) is.1.trace_is) given)
of_batch layout seen (command (delete shard)) trace (replied reply) one is given = absurd (no_order trace one (ap (λ (t : Trace). t.answers) is.1.trace_is) given)
of_batch layout seen (command (delete shard)) trace ran_out one (inl none) given = absurd (no_answer trace [] one none given)
of_batch layout seen (command (delete shard)) trace ran_out one (inr is) given = absurd (no_order trace one (ap (λ (t : Trace). t.answers) is.1.trace_is) given)

-- the stops of an order are among those of all orders
stop_of_order : (answers : List OrderAnswer) (one : OrderAnswer) (stop : Stop) → Contains answers one → Contains one.stops stop
    → Contains (order_stops answers) stop
stop_of_order answers one stop given there = by (split_at answers one given) where
  by : (before : List OrderAnswer) × (after : List OrderAnswer) × (answers ≡ before ++ one ∷ after) → Contains (order_stops answers) stop
  by (before, after, is) =
      let parts : order_stops answers ≡ order_stops before ++ (one.stops ++ order_stops after) =
      ap order_stops is ∙ flat_map-append (λ (answer : OrderAnswer). answer.stops) before (one ∷ after) in
      let here : Contains (order_stops before ++ (one.stops ++ order_stops after)) stop =
      Contains-append_right (order_stops before) (one.stops ++ order_stops after) stop
      (Contains-append_left one.stops (order_stops after) stop there) in
      subst (λ (stops : List Stop). Contains stops stop) (sym parts) here

-- a write of the id at a place of a journal is one of its writes
written : (journal : List Entry) (place : ℕ) (id : List ℕ) (write : Write) → write_at journal place ≡ Some write → write.id ≡ id
    → Contains (writes_of journal id) write
written [] zero id write is own = absurd (cc)
written [] (suc place) id write is own = absurd (cc)
written (one ∷ journal) zero id write is own =
    let first : writes_of (one ∷ []) id ≡ write ∷ [] =
    ap (λ (w : Option Write). filter (is_of id) (cons_option w [])) is ∙ ap (λ b. cond b (write ∷ []) []) (is_of_from_id id write own) in
    let there : Contains (writes_of (one ∷ []) id) write = subst (λ (these : List Write). Contains these write) (sym first) (0, omega arith, refl) in
    subst (λ (these : List Write). Contains these write) (sym (writes_of-append (one ∷ []) journal id))
    (Contains-append_left (writes_of (one ∷ []) id) (writes_of journal id) write there)
written (one ∷ journal) (suc place) id write is own =
    subst (λ (these : List Write). Contains these write) (sym (writes_of-append (one ∷ []) journal id))
    (Contains-append_right (writes_of (one ∷ []) id) (writes_of journal id) write (written journal place id write is own))

-- a journal up to a later place has the write
written_before : (journal : List Entry) (place stop : ℕ) (id : List ℕ) (write : Write) → write_at journal place ≡ Some write → write.id ≡ id
    → place < stop → Contains (writes_of (take stop journal) id) write
written_before journal place stop id write is own below =
    let within : place < length journal = write_at_within journal place (subst IsSome (sym is) refl) in
    let short : place < length (take stop journal) = omega (arith, length-take stop journal) in
    let parts : take stop journal ++ drop stop journal ≡ journal = take-append-drop stop journal in
    let here : write_at (take stop journal) place ≡ Some write =
    sym (write_at-append (take stop journal) (drop stop journal) place short) ∙ ap (λ (all : List Entry). write_at all place) parts ∙ is in
    written (take stop journal) place id write here own

-- in a legal journal the last write of an id is no older than any
last_since : (layout : Layout) (journal : List Entry) (id : List ℕ) (version : ℤ) (made : Write) → IsLegal layout.first journal
    → Contains (writes_of journal id) made → shown_version made ≡ version → (last : Write) × IsLastSince journal id version last
last_since layout journal id version made legal stands shown = by (last_write journal id) refl where
  by : (found : Option Write) → last_write journal id ≡ found → (last : Write) × IsLastSince journal id version last
  by None none = absurd (empty (subst (λ (these : List Write). Contains these made) (last_write_none journal id none) stands)) where
    empty : Contains [] made → ⊥
    empty (k, below, same) = omega arith
  by (Some last) is = (
    last,
    record {
      made = made;
      stands = stands;
      shown = shown;
      last_is = is;
      not_older = All-contains (λ (write : Write). write.version ≤ℤ last.version) (writes_of journal id) made
          (legal_newest layout.first journal id last legal is) stands;
    },
  )

-- The write of an order that was accepted, at its place in the journal of the id's bucket: it was seen once the exchange was over.
pub record IsMade (layout : Layout) (now later : Seen) (id : List ℕ) (version : ℤ) : Type 0 where
  pub place : ℕ
  pub write : Write
  pub at : write_at (later.journals (bucket_of id layout.buckets)) place ≡ Some write
  pub id_is : write.id ≡ id
  pub shown : shown_version write ≡ version
  pub within : place < entries_at layout now (bucket_of id layout.buckets)

module _ (layout : Layout) (id : List ℕ) (some_bucket : 0 < layout.buckets) where
  -- the lock of the id's bucket
  abbrev lock : ℕ
  lock = bucket_of id layout.buckets

  is_bucket : lock < layout.buckets
  is_bucket = let most = and_le_r (murmur3 id 0) (layout.buckets - 1) in omega (arith, most)

  -- an accepted order left its write
  order_made : (now later : Seen) (version : ℤ) (one : OrderAnswer) → IsOrderAnswer layout later one → one.order.id ≡ id
      → one.outcome ≡ accepted version → ((stop : Stop) → Contains one.stops stop → IsStopWithin layout now stop) → SeesMore now later
      → IsMade layout now later id version
  order_made now later version one is own outcome within more = by is.first is.lock
      (subst (λ (o : Outcome). IsOutcome (basis_of layout) (journal_at later is.first) one.order one.timestamp o (later.journals is.first.lock)) outcome is.outcome)
      (subst (λ (o : Outcome). HasStops later o one.stops is.first) outcome is.stops)
    where
      by : (first : Stop) → first.lock ≡ bucket_of one.order.id layout.buckets
          → IsOutcome (basis_of layout) (journal_at later first) one.order one.timestamp (accepted version) (later.journals first.lock)
          → HasStops later (accepted version) one.stops first
          → IsMade layout now later id version
      by first at_bucket came has =
          let here : first.lock ≡ lock = at_bucket ∙ ap (λ i. bucket_of i layout.buckets) own in
          let there : Contains one.stops first = subst (λ (ss : List Stop). Contains ss first) (sym has.stops_are) (0, omega arith, refl) in
          let after : place_after first ≡ first.place + 1 = ap (λ b. cond b (first.place + 1) first.place) has.made in
          let fits : place_after first ≤ entries_at layout now first.lock = (within first there).place in
          let seen_there : first.place < entries_at layout now lock =
          subst (λ n. first.place < entries_at layout now n) here (omega (arith, after, fits)) in
          let count : entries_at layout now lock ≡ length (now.journals lock) = entries-bucket layout now lock is_bucket in
          let grown : length (now.journals lock) ≤ length (later.journals lock) =
          IsPrefix-length (now.journals lock) (later.journals lock) (more.journals lock) in
          let short : length (take first.place (later.journals lock)) ≡ first.place =
          length-take-le first.place (later.journals lock) (omega arith) in
          let at_end : write_at (later.journals lock) (length (take first.place (later.journals lock))) ≡ Some came.2.0 =
          subst (λ n. write_at (later.journals n) (length (take first.place (later.journals n))) ≡ Some came.2.0) here came.2.1 in
          record {
            place = first.place;
            write = came.2.0;
            at = ap (write_at (later.journals lock)) (sym short) ∙ at_end;
            id_is = came.2.2.id ∙ own;
            shown = sym came.2.3;
            within = seen_there;
          }

  -- so did an exchange that accepted one
  exchange_made : (before later : Seen) (x : Exchange) (version : ℤ) → IsExchange layout before x → AcceptsOrderFor x id version → SeesMore x.seen later
      → IsMade layout x.seen later id version
  exchange_made before later x version is accepts more =
      order_made x.seen later version accepts.answer order accepts.id_is accepts.outcome_is within more
    where
      batch : (batch : Batch) × (how : UpdateEnd) × EndsBatch layout later batch x.trace how
      batch = of_batch layout later (asked x.request) x.trace x.answer accepts.answer (is.answered later more) accepts.given

      order : IsOrderAnswer layout later accepts.answer
      order = All-contains (IsOrderAnswer layout later) x.trace.answers accepts.answer
          (All-from_recursion (IsOrderAnswer layout later) x.trace.answers batch.2.answered.each) accepts.given

      within : (stop : Stop) → Contains accepts.answer.stops stop → IsStopWithin layout x.seen stop
      within stop there = All-contains (IsStopWithin layout x.seen) x.trace.stops stop
          (All-from_recursion (IsStopWithin layout x.seen) x.trace.stops is.extends.within)
          (subst (λ (stops : List Stop). Contains stops stop) (sym batch.2.stops_are)
          (Contains-append_left (order_stops x.trace.answers) (commit_stops x.trace.commits) stop
          (stop_of_order x.trace.answers accepts.answer stop accepts.given there)))

  -- the stops at the lock come in order from there on, so each of them is there or after it
  pub from_on : (from : ℕ) (before : List Stop) (stop : Stop) (after : List Stop) → stop.lock ≡ lock
      → ComeInOrder from (stops_at lock (before ++ stop ∷ after)) → from ≤ stop.place
  from_on from [] stop after here in_order = first.0 where
    first : ComeInOrder from (stop ∷ stops_at lock after)
    first =
        let same : (stop.lock == lock) ≡ true = grind (arith, nat_tests, here) in
        subst (λ b. ComeInOrder from (cond b (stop ∷ stops_at lock after) (stops_at lock after))) same in_order
  from_on from (other ∷ before) stop after here in_order =
      by (other.lock == lock) (from_on (place_after other) before stop after here) (from_on from before stop after here) in_order
    where
      rest : List Stop
      rest = stops_at lock (before ++ stop ∷ after)

      no_earlier : (made : Bool) → other.place ≤ cond made (other.place + 1) other.place
      no_earlier true = omega arith
      no_earlier false = omega arith

      by : (b : Bool) → (ComeInOrder (place_after other) rest → place_after other ≤ stop.place) → (ComeInOrder from rest → from ≤ stop.place)
          → ComeInOrder from (cond b (other ∷ rest) rest) → from ≤ stop.place
      by true after_it as_before come =
          let later : place_after other ≤ stop.place = after_it come.1 in
          let most : other.place ≤ place_after other = no_earlier other.made in
          omega (arith, come.0, later, most)
      by false after_it as_before come = as_before come

  -- what was made before is the last write of the id at a later stop of its bucket, or a later write is
  pub since_at : (old between new : Seen) (version : ℤ) (stop : Stop) → AreLegal layout new → IsMade layout old new id version
      → SeesMore old between → stop.lock ≡ lock → entries_at layout between lock ≤ stop.place
      → (last : Write) × IsLastSince (journal_at new stop) id version last
  since_at old between new version stop legal made grows at_lock after =
      subst (λ n. (last : Write) × IsLastSince (take stop.place (new.journals n)) id version last) (sym at_lock)
      (last_since layout (take stop.place journal) id version made.write begins_legal
      (written_before journal made.place stop.place id made.write made.at made.id_is here) made.shown)
    where
      journal : List Entry
      journal = new.journals lock

      here : made.place < stop.place
      here =
          let within : made.place < entries_at layout old lock = made.within in
          let grown : entries_at layout old lock ≤ entries_at layout between lock = entries-grow layout old between grows.journals grows.board lock in
          omega (arith, within, grown, after)

      begins_legal : IsLegal layout.first (take stop.place journal)
      begins_legal = IsLegal-prefix layout.first (take stop.place journal) (drop stop.place journal)
          (subst (IsLegal layout.first) (sym (take-append-drop stop.place journal)) (legal.buckets lock is_bucket))

-- an exchange comes after one that accepted an order for the id: when it came the order's write was made, and it was seen
pub record ReadsAfter (layout : Layout) (new : Seen) (writing reading : Exchange) (id : List ℕ) (version : ℤ) : Type 0 where
  pub between : Seen
  pub made : IsMade layout writing.seen new id version
  pub grows : SeesMore writing.seen between
  pub is : IsExchange layout between reading
  pub more : SeesMore reading.seen new

-- so does each later one of several exchanges
pub reads_after : (layout : Layout) (old new : Seen) (exchanges before between after : List Exchange) (writing reading : Exchange) (id : List ℕ) (version : ℤ)
    → 0 < layout.buckets → AreExchanges layout old exchanges new → exchanges ≡ before ++ writing ∷ between ++ reading ∷ after
    → AcceptsOrderFor writing id version → ReadsAfter layout new writing reading id version
reads_after layout old new exchanges before between after writing reading id version some_bucket are is accepts =
    let one = one_of layout old before writing (between ++ reading ∷ after) new
    (subst (λ (xs : List Exchange). AreExchanges layout old xs new) (is ∙ append_assoc before (writing ∷ between) (reading ∷ after)) are) in
    let two = one_of layout writing.passed between reading after new one.3 in
    record {
      between = two.0;
      made = exchange_made layout id some_bucket one.0 new writing version one.2 accepts
          (sees_on layout one.0 writing (between ++ reading ∷ after) new one.2 one.3);
      grows = SeesMore-then writing.seen writing.passed two.0 (SeesOnly-more writing.seen writing.passed one.2.met) two.1;
      is = two.2;
      more = sees_on layout two.0 reading after new two.2 two.3;
    }
