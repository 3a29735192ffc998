-- A get of one or of several ids after an accepted order of the same connection shows the order's version of the id or a later one.
use Rattle.std.proofs.Common.{◌≡◌, ℕ, suc, ◌<◌, ◌≤◌, List, [], ◌∷◌, ◌++◌, length, Option, refl, sym, ap, ◌∙◌, subst, arith, append_assoc}
use Rattle.std.specs.Prelude.{ℤ, option_to_list}
use Rattle.sc_record.specs.Writes.{Write}
use Rattle.sc_router.specs.Route.{bucket_of}
use Rattle.sc_model.specs.Replies.{Reply}
use Rattle.sc_seen.specs.Seen.{Layout, Seen, ComeInOrder, AreLegal, journal_at, stops_at, entries_at}
use Rattle.sc_seen.specs.declared.stop.Stop.{Stop}
use Rattle.sc_get.specs.Got.{live, ReadsAt, live_at, ReadsEach, live_writes}
use Rattle.sc_session.specs.Requests.{Asked, asked, get, get_ids}
use Rattle.sc_session.specs.Answers.{Answer, replied, Trace, IsAnswer, get_reply, ids_reply}
use Rattle.sc_session.specs.Connection.{Exchange, IsExchange, exchanges_of}
use Rattle.sc_session.specs.Laws.{IsLastSince, ShowsSince, ShowsAmongSince, id_among, GetsShowOwnWrites, GetsOfIdsShowOwnWrites, HoldsOfExchanges, HoldsOfConnections}
use Rattle.sc_session.proofs.OwnWritesLemmas.{from_on, since_at, ReadsAfter, reads_after}

-- Ids that were each read at a stop: the stops of those before one of them, its own, and those of the ids after it; and what is
-- live of all of them.
record SplitsAt (layout : Layout) (prior : List (List ℕ)) (id : List ℕ) (further : List (List ℕ)) (stops : List Stop) : Type 0 where
  pub before : List Stop
  pub stop : Stop
  pub after : List Stop
  pub is : stops ≡ before ++ stop ∷ after
  pub one_each : length before ≡ length prior
  pub reads : ReadsAt layout id stop
  pub shows : (seen : Seen) → live_writes seen (prior ++ id ∷ further) stops
      ≡ live_writes seen prior before ++ option_to_list (live_at seen id stop) ++ live_writes seen further after

splits_at : (layout : Layout) (prior : List (List ℕ)) (id : List ℕ) (further : List (List ℕ)) (stops : List Stop)
    → length stops ≡ length (prior ++ id ∷ further) → ReadsEach layout (prior ++ id ∷ further) stops → SplitsAt layout prior id further stops
splits_at layout [] id further [] count reads = absurd (omega (arith, count))
splits_at layout [] id further (stop ∷ stops) count reads =
    record { before = []; stop = stop; after = stops; is = refl; one_each = refl; reads = reads.0; shows = λ seen. refl }
splits_at layout (one ∷ prior) id further [] count reads = absurd (omega (arith, count))
splits_at layout (one ∷ prior) id further (first ∷ stops) count reads =
    let rest : SplitsAt layout prior id further stops = splits_at layout prior id further stops (omega (arith, count)) reads.1 in
    record {
      before = first ∷ rest.before;
      stop = rest.stop;
      after = rest.after;
      is = ap (λ (ss : List Stop). first ∷ ss) rest.is;
      one_each = ap suc rest.one_each;
      reads = rest.reads;
      shows = λ seen. regrouped (option_to_list (live_at seen one first)) (live_writes seen prior rest.before)
          (option_to_list (live_at seen id rest.stop)) (live_writes seen further rest.after)
          (live_writes seen (prior ++ id ∷ further) stops) (rest.shows seen);
    }
  where
    regrouped : (a b c d all : List Write) → all ≡ b ++ c ++ d → a ++ all ≡ a ++ b ++ c ++ d
    regrouped a b c d all is =
        ap (λ (ws : List Write). a ++ ws) is ∙ (sym (append_assoc a (b ++ c) d) ∙ ap (λ (ws : List Write). ws ++ d) (sym (append_assoc a b c)))

module _ (layout : Layout) (id : List ℕ) (some_bucket : 0 < layout.buckets) where
  -- the lock of the id's bucket
  abbrev lock : ℕ
  lock = bucket_of id layout.buckets

  -- the stops of an exchange's trace come after all that was seen before it
  come_after : (before : Seen) (x : Exchange) (prior : List Stop) (stop : Stop) (after : List Stop) → IsExchange layout before x
      → x.trace.stops ≡ prior ++ stop ∷ after → stop.lock ≡ lock → entries_at layout before lock ≤ stop.place
  come_after before x prior stop after is stops here = from_on layout id some_bucket (entries_at layout before lock) prior stop after here
      (subst (λ (ss : List Stop). ComeInOrder (entries_at layout before lock) (stops_at lock ss)) stops (is.extends.ascend lock))

  -- a get shows what was made before it, or a later write
  shows_since : (writing reading : Exchange) (new : Seen) (version : ℤ) (reply : Reply) → AreLegal layout new
      → ReadsAfter layout new writing reading id version → asked reading.request ≡ get id → reading.answer ≡ replied reply
      → ShowsSince layout new reading id version
  shows_since writing reading new version reply legal reads asks replies = record {
    stop = stop;
    last = last.0;
    stops_are = stops;
    lock = told.1.reads.0.lock;
    since = last.1;
    answer_is = replies ∙ ap replied (told.2 ∙ ap get_reply last.1.last_is);
  } where
    told : IsAnswer layout new (get id) reading.trace (replied reply)
    told = subst (λ (answer : Answer). IsAnswer layout new (get id) reading.trace answer) replies
        (subst (λ (what : Asked). IsAnswer layout new what reading.trace reading.answer) asks (reads.is.answered new reads.more))

    stop : Stop
    stop = told.0

    stops : reading.trace.stops ≡ stop ∷ []
    stops = ap (λ (trace : Trace). trace.stops) told.1.trace_is

    last : (last : Write) × IsLastSince (journal_at new stop) id version last
    last = since_at layout id some_bucket writing.seen reads.between new version stop legal reads.made reads.grows told.1.reads.0.lock
        (come_after reads.between reading [] stop [] reads.is stops told.1.reads.0.lock)

  -- a get of several ids shows of each of them what was made before it, or a later write
  shows_among : (writing reading : Exchange) (new : Seen) (prior further : List (List ℕ)) (version : ℤ) (reply : Reply) → AreLegal layout new
      → ReadsAfter layout new writing reading id version → asked reading.request ≡ get_ids (prior ++ id ∷ further) → reading.answer ≡ replied reply
      → ShowsAmongSince layout new reading (id_among prior id further) version
  shows_among writing reading new prior further version reply legal reads asks replies = record {
    before = split.before;
    stop = split.stop;
    after = split.after;
    last = last.0;
    stops_are = stops;
    one_each = split.one_each;
    lock = split.reads.lock;
    since = last.1;
    answer_is = replies ∙ ap replied (told.3 ∙ ap ids_reply (split.shows new ∙ ap with last.1.last_is));
  } where
    told : IsAnswer layout new (get_ids (prior ++ id ∷ further)) reading.trace (replied reply)
    told = subst (λ (answer : Answer). IsAnswer layout new (get_ids (prior ++ id ∷ further)) reading.trace answer) replies
        (subst (λ (what : Asked). IsAnswer layout new what reading.trace reading.answer) asks (reads.is.answered new reads.more))

    split : SplitsAt layout prior id further told.0
    split = splits_at layout prior id further told.0 told.2 told.1.reads

    stops : reading.trace.stops ≡ split.before ++ split.stop ∷ split.after
    stops = ap (λ (trace : Trace). trace.stops) told.1.trace_is ∙ split.is

    with : Option Write → List Write
    with found = live_writes new prior split.before ++ option_to_list (live found) ++ live_writes new further split.after

    last : (last : Write) × IsLastSince (journal_at new split.stop) id version last
    last = since_at layout id some_bucket writing.seen reads.between new version split.stop legal reads.made reads.grows split.reads.lock
        (come_after reads.between reading split.before split.stop split.after reads.is stops split.reads.lock)

pub gets_show : HoldsOfExchanges GetsShowOwnWrites
gets_show layout old new exchanges some_bucket are legal before between after writing reading id version reply is accepts asks replies =
    shows_since layout id some_bucket writing reading new version reply legal
    (reads_after layout old new exchanges before between after writing reading id version some_bucket are is accepts) asks replies

pub gets_of_ids_show : HoldsOfExchanges GetsOfIdsShowOwnWrites
gets_of_ids_show layout old new exchanges some_bucket are legal before between after writing reading prior further id version reply is accepts asks replies =
    shows_among layout id some_bucket writing reading new prior further version reply legal
    (reads_after layout old new exchanges before between after writing reading id version some_bucket are is accepts) asks replies

-- a law of exchanges holds of those of a connection
pub of_connections : {C : Type 0} (gives : C → ℕ → C → Type 0) (Law : Layout → Seen → List Exchange → Type 0) → HoldsOfExchanges Law → HoldsOfConnections gives Law
of_connections gives Law holds layout before after end some_bucket served =
    holds layout before.moment.view.seen after.moment.view.seen (served.exchanges ++ exchanges_of served.last) some_bucket served.traces.each served.legal
