-- Laws of a connection's exchanges, above their definitions.
use Rattle.std.specs.Prelude.{◌≡◌, ◌<◌, ◌≤ℤ◌, ℕ, ℤ, List, [], ◌∷◌, ◌++◌, length, Some, option_to_list, Contains}
use Rattle.sc_record.specs.Versions.{shown_version}
use Rattle.sc_record.specs.Writes.{Write}
use Rattle.sc_record.specs.declared.entry.Entry.{Entry}
use Rattle.sc_router.specs.Route.{bucket_of}
use Rattle.sc_model.specs.Replies.{Reply}
use Rattle.sc_journal.specs.Journal.{writes_of, last_write}
use Rattle.sc_journal.specs.Outcomes.{accepted}
use Rattle.sc_seen.specs.Seen.{Layout, Seen, AreLegal, journal_at}
use Rattle.sc_seen.specs.Batches.{OrderAnswer}
use Rattle.sc_seen.specs.declared.stop.Stop.{Stop}
use Rattle.sc_get.specs.Got.{live, live_writes}
use Rattle.sc_session.specs.Requests.{asked, get, get_ids}
use Rattle.sc_session.specs.Answers.{replied, get_reply, ids_reply}
use Rattle.sc_session.specs.Connection.{Exchange, AreExchanges, exchanges_of}
use Rattle.sc_session.specs.States.{ConnectionState}
use Rattle.sc_session.specs.Served.{IsServed}
use Rattle.sc_session.specs.declared.end.End.{End}

-- the exchange's update accepted an order for the id, and this is the version of its write as it is shown
pub record AcceptsOrderFor (x : Exchange) (id : List ℕ) (version : ℤ) : Type 0 where
  pub answer : OrderAnswer
  pub given : Contains x.trace.answers answer
  pub id_is : answer.order.id ≡ id
  pub outcome_is : answer.outcome ≡ accepted version

-- the journal has the id's write that is shown with this version, and the last write of the id there is that one or a later one
pub record IsLastSince (journal : List Entry) (id : List ℕ) (version : ℤ) (last : Write) : Type 0 where
  pub made : Write
  pub stands : Contains (writes_of journal id) made
  pub shown : shown_version made ≡ version
  pub last_is : last_write journal id ≡ Some last
  pub not_older : made.version ≤ℤ last.version

-- The exchange's get shows that version of the id or a later one: the last write at its one stop, which is at the journal of the
-- id's bucket.
pub record ShowsSince (layout : Layout) (seen : Seen) (x : Exchange) (id : List ℕ) (version : ℤ) : Type 0 where
  pub stop : Stop
  pub last : Write
  pub stops_are : x.trace.stops ≡ stop ∷ []
  pub lock : stop.lock ≡ bucket_of id layout.buckets
  pub since : IsLastSince (journal_at seen stop) id version last
  pub answer_is : x.answer ≡ replied (get_reply (Some last))

-- of these exchanges, a get after one that accepted an order for its id shows that version or a later one, where it is replied
abbrev pub GetsShowOwnWrites : Layout → Seen → List Exchange → Type 0
GetsShowOwnWrites layout seen exchanges =
    (before between after : List Exchange) (writing reading : Exchange) (id : List ℕ) (version : ℤ) (reply : Reply)
    → exchanges ≡ before ++ writing ∷ between ++ reading ∷ after
    → AcceptsOrderFor writing id version → asked reading.request ≡ get id → reading.answer ≡ replied reply
    → ShowsSince layout seen reading id version

-- an id among those that a get asks for: the ones before it, itself, and the ones after it
pub record IdAmong : Type 0 where
  pub prior : List (List ℕ)
  pub id : List ℕ
  pub further : List (List ℕ)

abbrev pub id_among : (prior : List (List ℕ)) → (id : List ℕ) → (further : List (List ℕ)) → IdAmong
id_among prior id further = record { prior = prior; id = id; further = further }

-- The exchange's get of several ids shows that version of this id, or a later one. It has a stop for each id; at the id's, which is at
-- the journal of its bucket, the last write is that one or a later one. What is shown is what is live of the ids before, then that
-- write, unless it is a deletion, and then what is live of the ids after.
pub record ShowsAmongSince (layout : Layout) (seen : Seen) (x : Exchange) (one : IdAmong) (version : ℤ) : Type 0 where
  pub before : List Stop
  pub stop : Stop
  pub after : List Stop
  pub last : Write
  pub stops_are : x.trace.stops ≡ before ++ stop ∷ after
  pub one_each : length before ≡ length one.prior
  pub lock : stop.lock ≡ bucket_of one.id layout.buckets
  pub since : IsLastSince (journal_at seen stop) one.id version last
  pub answer_is : x.answer
      ≡ replied (ids_reply (live_writes seen one.prior before ++ option_to_list (live (Some last)) ++ live_writes seen one.further after))

-- of these exchanges, a get of several ids after one that accepted an order for one of them shows that version or a later one of
-- it, where it is replied
abbrev pub GetsOfIdsShowOwnWrites : Layout → Seen → List Exchange → Type 0
GetsOfIdsShowOwnWrites layout seen exchanges =
    (before between after : List Exchange) (writing reading : Exchange) (prior further : List (List ℕ)) (id : List ℕ) (version : ℤ) (reply : Reply)
    → exchanges ≡ before ++ writing ∷ between ++ reading ∷ after
    → AcceptsOrderFor writing id version → asked reading.request ≡ get_ids (prior ++ id ∷ further) → reading.answer ≡ replied reply
    → ShowsAmongSince layout seen reading (id_among prior id further) version

-- such a law holds of exchanges one after another, where the journals are legal
abbrev pub HoldsOfExchanges : (Layout → Seen → List Exchange → Type 0) → Type 0
HoldsOfExchanges Law = (layout : Layout) (old new : Seen) (exchanges : List Exchange) → 0 < layout.buckets
    → AreExchanges layout old exchanges new → AreLegal layout new → Law layout new exchanges

-- it holds of the exchanges of a connection that was served, whatever its clock gives
abbrev pub HoldsOfConnections : {C : Type 0} → (C → ℕ → C → Type 0) → (Layout → Seen → List Exchange → Type 0) → Type 0
HoldsOfConnections {C} gives Law = (layout : Layout) (before after : ConnectionState C) (end : End) → 0 < layout.buckets
    → (served : IsServed gives layout before after end) → Law layout after.moment.view.seen (served.exchanges ++ exchanges_of served.last)
