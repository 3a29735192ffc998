-- A bucket with more room is sound, and what room a write takes.
use Rattle.std.proofs.Common.{◌≡◌, ℕ, ◌+◌, ◌<◌, ◌≤◌, ◌⊎◌, inl, inr, true, false, List, ◌++◌, length, map, All, Contains, slice_get, Option, Some, Result, Ok, Err, refl, sym, ap, ◌∙◌, subst, arith}
use Rattle.std.specs.Prelude.{OnOk}
use Rattle.std.specs.List.{AllZip, IsDistinct}
use Rattle.std.proofs.lemmas.List.{length-append, length-map}
use Rattle.std.proofs.lemmas.List.Elements.{All-contains}
use Rattle.std.proofs.lemmas.Simd.{map-map}
use Rattle.sc_record.specs.declared.slice.CoreId.{CoreId}
use Rattle.sc_cluster.specs.Map.{IsMap}
use Rattle.sc_cluster.proofs.ListLemmas.{All-from_slice_get}
use Rattle.sc_replica.specs.Core.{Core}
use Rattle.sc_journal.specs.Journal.{writes, unsettled}
use Rattle.sc_journal.specs.Splits.{map_after, open_split, owed, HasRoomFor}
use Rattle.sc_journal.specs.Legal.{IsLegal}
use Rattle.sc_bucket.specs.declared.bucket.Bucket.{Bucket}
use Rattle.sc_bucket.specs.declared.message.Message.{Message}
use Rattle.sc_bucket.specs.Kept.{JournalState, PlacesState, Sent, FlightState, FeedState}
use Rattle.sc_record.specs.Names.{is_core}
use Rattle.sc_bucket.specs.Flight.{sent_of, in_flight}
use Rattle.sc_bucket.specs.Pending.{to_feed, pending}
use Rattle.sc_bucket.specs.Events.{IsSameButRoom}
use Rattle.sc_bucket.specs.Accepting.{IsRoomier, HasMore, HasMoreAt, HasMemory}
use Rattle.sc_bucket.specs.Room.{BucketHasRoom}
use Rattle.sc_bucket.specs.Sound.{AreActive, HasJournal, HasSpare, IsSound}
use Rattle.sc_replicas.proofs.CoreLemmas.{is_core-Decides}
use Rattle.sc_bucket.proofs.SearcherLemmas.{HasSearchers-same}
use Rattle.sc_bucket.proofs.SoundLemmas.{All-slice_get, SaysSame-same, ArePrepared-same, AreSent-same, IsSound-left}
use Rattle.sc_bucket.proofs.PendingLemmas.{goes_to, in_flight-append, length-in_flight, in_flight-none, in_flight-once, in_flight-cases, length-pending, length-pending_more}
use Rattle.sc_bucket.proofs.RoomierLemmas.{same-roomier, spares-roomier}

-- a bucket's journal is sound, apart from its cores
pub HasJournal-same : (old new : Bucket) → new.first ≡ old.first → new.limit ≡ old.limit → new.map ≡ old.map → new.journal.entries ≡ old.journal.entries
    → new.unsettled.places ≡ old.unsettled.places → new.owed ≡ old.owed → new.owed ≤ new.journal.room
    → HasJournal old → HasJournal new
HasJournal-same old new first limit map_is entries places owed_is room journal = record {
  first = subst IsMap (sym first) journal.first;
  begins = subst AreActive (sym first) journal.begins;
  legal = subst (λ j. IsLegal new.first j) (sym entries) (subst (λ f. IsLegal f old.journal.entries) (sym first) journal.legal);
  map_is = map_is ∙ journal.map_is ∙ sym (ap (λ f. map_after f new.journal.entries) first ∙ ap (map_after old.first) entries);
  unsettled_are = places ∙ journal.unsettled_are ∙ sym (ap unsettled entries);
  owed_is = owed_is ∙ journal.owed_is ∙ sym (ap (λ f. owed f new.journal.entries) first ∙ ap (owed old.first) entries);
  room = room;
  within = let same : length new.journal.entries ≡ length old.journal.entries = ap length entries in
      omega (arith, journal.within, same, owed_is, limit);
  limit_from = omega (arith, journal.limit_from, limit);
  limit_to = omega (arith, journal.limit_to, limit);
}

-- nor does its room for entries change with that in memory
pub BucketHasRoom-same : (old new : Bucket) (wanted : ℕ) → IsSameButRoom old new → BucketHasRoom wanted old → BucketHasRoom wanted new
BucketHasRoom-same old new wanted same room =
    subst (λ limit. HasRoomFor wanted limit new.first new.journal.entries) (sym same.name.limit)
    (subst (λ first. HasRoomFor wanted old.limit first new.journal.entries) (sym same.name.first)
    (subst (HasRoomFor wanted old.limit old.first) (sym same.entries) room))

-- a bucket in which nothing changed but room is sound
pub IsSound-same : (old new : Bucket) → IsSameButRoom old new → new.unsettled.places ≡ old.unsettled.places → new.owed ≡ old.owed
    → new.owed ≤ new.journal.room → new.spares ≡ old.spares → All (HasSpare new.flight.messages new.feeds) new.replicas
    → IsSound old → IsSound new
IsSound-same old new same places owed_is room same_spares spares sound =
    IsSound-left old new sound same.split
    (HasJournal-same old new same.name.first same.name.limit same.map_is same.entries places owed_is room sound.journal) same.map_is same.cores
    (ap writes same.entries) (ap open_split same.entries) (SaysSame-same old.journal.entries new.journal.entries same.entries) same.messages
    (AreSent-same old new same.cores same.entries same.messages sound.messages) spares
    (HasSearchers-same old new same.map_is same.searchers_are same.entries sound.searchers)
    (ArePrepared-same old new same.split.phase same.map_is same.searchers_are same_spares sound.prepared)

-- nor where only how many entries a log file has changes
pub IsSound-filed : (b : Bucket) (filed : Option ℕ) → IsSound b → IsSound (record b { journal = record b.journal { filed = filed } })
IsSound-filed b filed sound =
    let new : Bucket = record b { journal = record b.journal { filed = filed } } in
    IsSound-left b new sound (record { phase = refl; feeds = refl })
    (HasJournal-same b new refl refl refl refl refl refl sound.journal.room sound.journal) refl refl refl refl
    (SaysSame-same b.journal.entries b.journal.entries refl) refl (AreSent-same b new refl refl refl sound.messages) sound.room
    (HasSearchers-same b new refl refl refl sound.searchers) sound.prepared

-- the bucket with other room in its parts
abbrev pub with_parts : Bucket → JournalState → PlacesState → FlightState → List Core → Bucket
with_parts b journal unsettled flight cores = record b { journal = journal; unsettled = unsettled; flight = flight; replicas = cores }

-- what more room in the parts of a bucket leaves
pub record HasMoreRoom (b : Bucket) (journal : JournalState) (unsettled : PlacesState) (flight : FlightState) (cores : List Core) : Type 0 where
  pub entries : journal.entries ≡ b.journal.entries
  pub filed : journal.filed ≡ b.journal.filed
  pub room : b.journal.room ≤ journal.room
  pub places : unsettled.places ≡ b.unsettled.places
  pub messages : flight.messages ≡ b.flight.messages
  pub cores_are : AllZip IsRoomier b.replicas cores

pub IsSameButRoom-with_parts : (b : Bucket) (journal : JournalState) (unsettled : PlacesState) (flight : FlightState) (cores : List Core)
    → HasMoreRoom b journal unsettled flight cores → IsSameButRoom b (with_parts b journal unsettled flight cores)
IsSameButRoom-with_parts b journal unsettled flight cores more = record {
  name = record { first = refl; limit = refl; filed = more.filed };
  split = record { phase = refl; feeds = refl };
  map_is = refl;
  entries = more.entries;
  messages = more.messages;
  cores = same-roomier b.replicas cores more.cores_are;
  searchers_are = refl;
}

-- which has room for what is pending, and is sound
pub spares-with_parts : (b : Bucket) (journal : JournalState) (unsettled : PlacesState) (flight : FlightState) (cores : List Core)
    → HasMoreRoom b journal unsettled flight cores → IsSound b → All (HasSpare flight.messages b.feeds) cores
spares-with_parts b journal unsettled flight cores more sound =
    subst (λ (messages : List Sent). All (HasSpare messages b.feeds) cores) (sym more.messages)
    (spares-roomier b.flight.messages b.feeds b.replicas cores more.cores_are sound.room)

pub IsSound-with_parts : (b : Bucket) (journal : JournalState) (unsettled : PlacesState) (flight : FlightState) (cores : List Core)
    → HasMoreRoom b journal unsettled flight cores → IsSound b → IsSound (with_parts b journal unsettled flight cores)
IsSound-with_parts b journal unsettled flight cores more sound =
    IsSound-same b (with_parts b journal unsettled flight cores) (IsSameButRoom-with_parts b journal unsettled flight cores more) more.places refl
    (omega (arith, sound.journal.room, more.room)) refl
    (spares-with_parts b journal unsettled flight cores more sound) sound

-- a core has room for what is pending once more is sent, of which it gets at most one, where it has room for one more if it does
cores_have_room : (flight sent : List Sent) (feeds : List FeedState) (core : Core) → HasSpare flight feeds core
    → IsDistinct is_core (map goes_to sent)
    → ((other : CoreId) → Contains (map goes_to sent) other → is_core core.core other ≡ true
    → HasMore flight feeds core)
    → HasSpare (flight ++ sent) feeds core
cores_have_room flight sent feeds core spare once more = by (in_flight-cases sent core.core) where
  before : length (pending flight feeds core)
      ≡ length (in_flight flight core.core) + length core.buffer + length (to_feed feeds core.core)
  before = length-pending flight feeds core

  after : length (pending (flight ++ sent) feeds core)
      ≡ length (pending flight feeds core) + length (in_flight sent core.core)
  after = length-pending_more flight sent feeds core

  both : length (in_flight (flight ++ sent) core.core) ≡ length (in_flight flight core.core) + length (in_flight sent core.core)
  both = ap length (in_flight-append flight sent core.core) ∙ length-append (in_flight flight core.core) (in_flight sent core.core)

  by : (length (in_flight sent core.core) ≡ 0) ⊎ ((other : CoreId) × Contains (map goes_to sent) other × (is_core core.core other ≡ true))
      → HasSpare (flight ++ sent) feeds core
  by (inl none) = record {
    cells = omega (arith, after, none, spare.cells);
    buffer = omega (arith, both, none, spare.buffer);
  }
  by (inr (other, there, same)) =
      let room = more other there same in
      let one = in_flight-once sent core.core once in
      let most = length-in_flight flight core.core in
      record {
        cells = omega (arith, after, before, one, most, room.cells);
        buffer = omega (arith, both, one, most, room.buffer);
      }

-- the messages' cores, by what contracts see of the messages
names_of-sent : (messages : List Message) → map goes_to (map sent_of messages) ≡ map (λ (message : Message). message.core) messages
names_of-sent messages = map-map goes_to sent_of messages

-- there is memory for a write and its messages, where there is room in the journal and in each core that gets it
pub memory_for : (b : Bucket) (leader : ℕ) (messages : List Message) → b.owed + 2 ≤ b.journal.room → 0 < b.unsettled.room
    → length messages ≤ b.flight.room → All (HasSpare b.flight.messages b.feeds) b.replicas
    → IsDistinct is_core (map (λ (message : Message). message.core) messages)
    → ((core : Core) → slice_get b.replicas leader ≡ Some core
    → All (λ name. is_core core.core name ≡ false) (map (λ (message : Message). message.core) messages))
    → All (HasMoreAt b.flight.messages b.feeds b.replicas) (map (λ (message : Message). message.core) messages)
    → ((core : Core) → slice_get b.replicas leader ≡ Some core → HasMore b.flight.messages b.feeds core)
    → HasMemory b leader (map sent_of messages)
memory_for b leader messages journal unsettled room spares once others more leads = record {
  journal = journal;
  unsettled = unsettled;
  flight = omega (arith, length-map messages sent_of);
  cores = All-from_slice_get (HasSpare (b.flight.messages ++ sent) b.feeds) b.replicas (λ k core found.
      cores_have_room b.flight.messages sent b.feeds core
      (All-slice_get (HasSpare b.flight.messages b.feeds) b.replicas k core spares found)
      (subst (IsDistinct is_core) (sym (names_of-sent messages)) once)
      (λ other there same. has k core found other (subst (λ (names : List CoreId). Contains names other) (names_of-sent messages) there) same));
  one_more = λ core found.
      let has_room = leads core found in
      let none = in_flight-none sent core.core
      (subst (All (λ name. is_core core.core name ≡ false)) (sym (names_of-sent messages)) (others core found)) in
      let most = length-in_flight b.flight.messages core.core in
      omega (
        arith,
        length-pending_more b.flight.messages sent b.feeds core,
        length-pending b.flight.messages b.feeds core,
        ap length none,
        most,
        has_room.cells,
      );
} where
  sent : List Sent
  sent = map sent_of messages

  has : (k : ℕ) (core : Core) → slice_get b.replicas k ≡ Some core → (other : CoreId)
      → Contains (map (λ (message : Message). message.core) messages) other → is_core core.core other ≡ true
      → HasMore b.flight.messages b.feeds core
  has k core found other there same =
      let at = All-contains (HasMoreAt b.flight.messages b.feeds b.replicas)
      (map (λ (message : Message). message.core) messages) other more there in
      let alike : core.core ≡ other = (is_core-Decides core.core other).0 same in
      All-slice_get (λ (one : Core). is_core other one.core ≡ true → HasMore b.flight.messages b.feeds one)
      b.replicas k core at found
      ((is_core-Decides other core.core).1 (sym alike))

-- the same, by what a call answered that makes room in the cores
pub memory-reserved : {T F : Type 0} (result : Result T F) (b : Bucket) (leader : ℕ) (messages : List Message) → b.owed + 2 ≤ b.journal.room
    → 0 < b.unsettled.room → length messages ≤ b.flight.room → All (HasSpare b.flight.messages b.feeds) b.replicas
    → IsDistinct is_core (map (λ (message : Message). message.core) messages)
    → ((core : Core) → slice_get b.replicas leader ≡ Some core
    → All (λ name. is_core core.core name ≡ false) (map (λ (message : Message). message.core) messages))
    → OnOk result
    (All (HasMoreAt b.flight.messages b.feeds b.replicas) (map (λ (message : Message). message.core) messages))
    → OnOk result ((core : Core) → slice_get b.replicas leader ≡ Some core → HasMore b.flight.messages b.feeds core)
    → OnOk result (HasMemory b leader (map sent_of messages))
memory-reserved (Ok x) b leader messages journal unsettled room spares once others more leads =
    memory_for b leader messages journal unsettled room spares once others more leads
memory-reserved (Err x) b leader messages journal unsettled room spares once others more leads = tt
