-- A bucket is sound once a message in flight was delivered.
use Rattle.std.proofs.Common.{◌≡◌, ℕ, suc, ◌<◌, Bool, true, false, cond, List, [], ◌∷◌, ◌++◌, length, get_or, map, set, take, drop, slice_get, Option, Some, All, Contains, refl, sym, ap, ◌∙◌, subst, arith}
use Rattle.std.specs.List.{IsDistinct, remove}
use Rattle.std.proofs.lemmas.List.Elements.{All-append, All-drop, All-map, All-take, All-weaker}
use Rattle.std.proofs.lemmas.List.Quantifiers.{all_pairs_remove}
use Rattle.std.proofs.lemmas.Map.Keys.{apart_from_distinct, IsDistinct-from_apart}
use Rattle.std.proofs.lemmas.Option.{slice_get_within, same_Some}
use Rattle.sc_record.specs.declared.slice.CoreId.{CoreId}
use Rattle.sc_record.specs.Writes.{Write}
use Rattle.sc_cluster.proofs.ListLemmas.{map-map_kept}
use Rattle.sc_ulog.specs.declared.mode.Mode.{Mode}
use Rattle.sc_ulog.specs.declared.mode.Mode.TheVariants.{Active, Buffering, Replaying}
use Rattle.sc_replica.specs.Core.{Core, fed, buffered, received, received_in}
use Rattle.sc_bucket.specs.declared.bucket.Bucket.{Bucket}
use Rattle.sc_bucket.specs.Kept.{Sent, FlightState}
use Rattle.sc_record.specs.Names.{is_core}
use Rattle.sc_replicas.specs.Cores.{IsCoreWithoutRoom}
use Rattle.sc_bucket.specs.Flight.{in_flight, received_by, delivered, is_same_message, IsFirstOf}
use Rattle.sc_bucket.specs.Pending.{to_feed, pending}
use Rattle.sc_bucket.specs.Sound.{HasJournal, IsSent, AreSent, HasSpare, IsSound}
use Rattle.sc_bucket.specs.Events.{Delivers, DeliversFirst}
use Rattle.sc_replicas.proofs.CoreLemmas.{AreApart, name_of, is_core-Decides, IsCoreFound, AreApart-from_ascending}
use Rattle.sc_bucket.proofs.ChangedLemmas.{changed_at}
use Rattle.sc_bucket.proofs.PendingLemmas.{length-pending}
use Rattle.sc_bucket.proofs.SearcherLemmas.{HasSearchers-same}
use Rattle.sc_bucket.proofs.SoundLemmas.{All-slice_get, name_and_mode, AreAlike, AreAlike-map, name_and_mark, SaysSame-same, AreMarked-left, names-alike, HasCores-alike, AreFeeds-alike, IsInPhase-alike}
use Rattle.sc_bucket.proofs.FlightLemmas.{IsOneLess, one_less-append, taken-own, taken-other}
use Rattle.sc_bucket.proofs.DeliveredLemmas.{IsSoundCore, fed_is_sound, buffered_is_sound, AreSame-append, AreSame-moved}
use Rattle.sc_bucket.proofs.InOrderLemmas.{in_order-received}

-- the bucket with these messages in flight and these cores
abbrev pub with_cores : Bucket → FlightState → List Core → Bucket
with_cores b flight cores = record b { flight = flight; replicas = cores }

-- what becomes of a core is known by whether the message is to it
received_by_cases : (P : Core → Type 0) (name : CoreId) (write : Write) (core : Core) → (is_core core.core name ≡ true → P (received core write))
    → (is_core core.core name ≡ false → P core) → P (received_by name write core)
received_by_cases P name write core own other = by (is_core name core.core) refl where
  by : (b : Bool) → is_core name core.core ≡ b → P (cond b (received core write) core)
  by true is = own ((is_core-Decides core.core name).1 (sym ((is_core-Decides name core.core).0 is)))
  by false is = other (apart (is_core core.core name) refl) where
    apart : (b : Bool) → is_core core.core name ≡ b → is_core core.core name ≡ false
    apart false differ = differ
    apart true alike =
        let yes : is_core name core.core ≡ true = (is_core-Decides name core.core).1 (sym ((is_core-Decides core.core name).0 alike)) in
        let both : true ≡ false = sym yes ∙ is in
        absurd (cc)

-- its name and its mode stay
name_and_mode-received : (core : Core) (write : Write) → name_and_mode (received core write) ≡ name_and_mode core
name_and_mode-received core write =
    elim core.mode as (λ mode. name_and_mode (received_in mode core write) ≡ name_and_mode core) [
      | Active ↦ refl
      | Buffering ↦ refl
      | Replaying ↦ refl
    ]

pub name-received : (core : Core) (write : Write) → (received core write).core ≡ core.core
name-received core write = ap (λ (pair : CoreId × Mode). pair.0) (name_and_mode-received core write)

-- nor is it marked as down, or as up
name_and_mark-received : (core : Core) (write : Write) → name_and_mark (received core write) ≡ name_and_mark core
name_and_mark-received core write =
    elim core.mode as (λ mode. name_and_mark (received_in mode core write) ≡ name_and_mark core) [
      | Active ↦ refl
      | Buffering ↦ refl
      | Replaying ↦ refl
    ]

marks-delivered : (message : Sent) (cores : List Core) → map name_and_mark (delivered message cores) ≡ map name_and_mark cores
marks-delivered message cores =
    map-map_kept name_and_mark (received_by message.core message.write)
    (λ core. received_by_cases (λ (after : Core). name_and_mark after ≡ name_and_mark core)
    message.core message.write core
    (λ own. name_and_mark-received core message.write) (λ other. refl)) cores

AreAlike-delivered : (message : Sent) (cores : List Core) → AreAlike cores (delivered message cores)
AreAlike-delivered message cores =
    AreAlike-map (received_by message.core message.write)
    (λ core. received_by_cases (λ (after : Core). name_and_mode after ≡ name_and_mode core)
    message.core message.write core
    (λ own. name_and_mode-received core message.write) (λ other. refl)) cores

-- the core is sound, where these messages are in flight
abbrev pub IsSoundIn : Bucket → List Sent → Core → Type 0
IsSoundIn b messages core =
    IsSoundCore b.map b.journal.entries (in_flight messages core.core) (pending messages b.feeds core) core

-- a core of a sound bucket is
pub core_is_sound : (b : Bucket) (k : ℕ) (d : Core) → k < length b.replicas → IsSound b
    → IsSoundIn b b.flight.messages (get_or b.replicas k d)
core_is_sound b k d below sound = record {
  serves = sound.leaders k d below;
  written = sound.written k d below;
  held = sound.held k d below;
  in_range = sound.in_range k d below;
  clock = sound.clocks k d below;
  cell_room = (sound.room k d below).cells;
  buffer_room = (sound.room k d below).buffer;
}

-- and it is once it received a write that was in flight to it
received_is_sound : (b : Bucket) (messages left : List Sent) (core : Core) (write : Write) → IsSound b
    → IsOneLess (in_flight messages core.core) write (in_flight left core.core) → IsSoundIn b messages core
    → IsSoundIn b left (received core write)
received_is_sound b messages left core write sound one before =
    elim core.mode as (λ mode. IsSoundIn b left (received_in mode core write)) [
      | Active ↦ is_fed
      | Buffering ↦ is_buffered
      | Replaying ↦ is_fed
    ]
  where
    sent : List Write
    sent = in_flight messages core.core

    still : List Write
    still = in_flight left core.core

    feed : List Write
    feed = to_feed b.feeds core.core

    is_fed : IsSoundIn b left (fed core write)
    is_fed =
        fed_is_sound b.first b.map b.journal.entries sent still
        (pending messages b.feeds core) (pending left b.feeds core) core write
        sound.journal.legal
        (one_less-append (sent ++ core.buffer) (still ++ core.buffer) feed write
        (one_less-append sent still core.buffer write one))
        (omega (arith, one.count)) before

    is_buffered : IsSoundIn b left (buffered core write)
    is_buffered =
        buffered_is_sound b.map b.journal.entries sent still
        (pending messages b.feeds core) (pending left b.feeds (buffered core write)) core write
        (AreSame-append (sent ++ core.buffer) (still ++ (core.buffer ++ write ∷ [])) feed
        (AreSame-moved sent still core.buffer write one))
        one.count before

-- each core is sound once the message was delivered
cores_are_sound : (b : Bucket) (at : ℕ) (message : Sent) → IsSound b → slice_get b.flight.messages at ≡ Some message
    → All (IsSoundIn b (remove b.flight.messages at)) (delivered message b.replicas)
cores_are_sound b at message sound found =
    All-map (IsSoundIn b left) (received_by message.core message.write) b.replicas
    (λ k d below. each (get_or b.replicas k d) (core_is_sound b k d below sound))
  where
    left : List Sent
    left = remove b.flight.messages at

    each : (core : Core) → IsSoundIn b b.flight.messages core → IsSoundIn b left (received_by message.core message.write core)
    each core before =
        received_by_cases (IsSoundIn b left) message.core message.write core
        (λ own. received_is_sound b b.flight.messages left core message.write sound
        (taken-own b.flight.messages at message core.core found own) before)
        (λ other. subst
        (λ sent. IsSoundCore b.map b.journal.entries sent (sent ++ core.buffer ++ to_feed b.feeds core.core) core)
        (sym (taken-other b.flight.messages at message core.core found other)) before)

-- each core is in order still
in_order-delivered : (message : Sent) (cores : List Core) → All IsCoreWithoutRoom cores → All IsCoreWithoutRoom (delivered message cores)
in_order-delivered message cores are =
    All-map IsCoreWithoutRoom (received_by message.core message.write) cores
    (All-weaker IsCoreWithoutRoom (λ core. IsCoreWithoutRoom (received_by message.core message.write core))
    (λ core is. received_by_cases IsCoreWithoutRoom message.core message.write core
    (λ own. in_order-received core message.write is) (λ other. is)) cores are)

-- what is true of each element is true of each that is left
All-remove : {X : Type 0} (P : X → Type 0) (xs : List X) (at : ℕ) → All P xs → All P (remove xs at)
All-remove P xs at all = All-append P (take at xs) (drop (suc at) xs) (All-take P at xs all) (All-drop P (suc at) xs all)

-- the messages that are left are as they have to be
AreSent-left : (b : Bucket) (at : ℕ) (flight : FlightState) (cores : List Core) → at < length b.flight.messages
    → flight.messages ≡ remove b.flight.messages at → map name_of cores ≡ map name_of b.replicas → AreSent b
    → AreSent (with_cores b flight cores)
AreSent-left b at flight cores within left names sent = record {
  each = subst (All (IsSent (with_cores b flight cores))) (sym left)
      (All-remove (IsSent (with_cores b flight cores)) b.flight.messages at
      (All-weaker (IsSent b) (IsSent (with_cores b flight cores)) same b.flight.messages sent.each));
  once = subst (IsDistinct is_same_message) (sym left)
      (IsDistinct-from_apart is_same_message (remove b.flight.messages at)
      (all_pairs_remove (λ (one other : Sent). is_same_message one other ≡ false) b.flight.messages at within
      (λ i j d. λ before inside. apart_from_distinct is_same_message b.flight.messages i j d sent.once before inside)));
} where
  same : (message : Sent) → IsSent b message → IsSent (with_cores b flight cores) message
  same message is = record {
    write = is.write;
    unsettled = is.unsettled;
    core = subst (λ (those : List CoreId). Contains those message.core) (sym names) is.core;
    up = is.up;
  }

-- which says nothing of the messages and the cores
same_journal : (b : Bucket) (flight : FlightState) (cores : List Core) → HasJournal b → HasJournal (with_cores b flight cores)
same_journal b flight cores journal = record {
  first = journal.first;
  begins = journal.begins;
  legal = journal.legal;
  map_is = journal.map_is;
  unsettled_are = journal.unsettled_are;
  owed_is = journal.owed_is;
  room = journal.room;
  within = journal.within;
  limit_from = journal.limit_from;
  limit_to = journal.limit_to;
}

-- a sound bucket is sound once the message at a place of the flight was delivered
pub IsSound-delivered : (b : Bucket) (at : ℕ) (message : Sent) (flight : FlightState) → IsSound b
    → slice_get b.flight.messages at ≡ Some message → flight.messages ≡ remove b.flight.messages at
    → IsSound (with_cores b flight (delivered message b.replicas))
IsSound-delivered b at message flight sound found left =
    let cores : List Core = delivered message b.replicas in
    let new : Bucket = with_cores b flight cores in
    let alike = AreAlike-delivered message b.replicas in
    let sound_cores : All (IsSoundIn b flight.messages) cores =
    subst (λ messages. All (IsSoundIn b messages) cores) (sym left) (cores_are_sound b at message sound found) in
    record {
      journal = same_journal b flight cores sound.journal;
      leaders = λ k d below. (sound_cores k d below).serves;
      written = λ k d below. (sound_cores k d below).written;
      held = λ k d below. (sound_cores k d below).held;
      in_range = λ k d below. (sound_cores k d below).in_range;
      clocks = λ k d below. (sound_cores k d below).clock;
      in_order = in_order-delivered message b.replicas sound.in_order;
      searchers = HasSearchers-same b new refl refl refl sound.searchers;
      prepared = sound.prepared;
      messages = AreSent-left b at flight cores (slice_get_within b.flight.messages at message found) left
          (names-alike b.replicas cores alike) sound.messages;
      room = λ k d below. record { cells = (sound_cores k d below).cell_room; buffer = (sound_cores k d below).buffer_room };
      cores = HasCores-alike b new refl refl alike
          (AreMarked-left b.journal.entries b.journal.entries b.replicas cores (marks-delivered message b.replicas)
          (SaysSame-same b.journal.entries b.journal.entries refl) sound.cores.marked) sound.cores;
      feeds = AreFeeds-alike b new refl refl refl alike sound.feeds;
      phase = IsInPhase-alike b new b.phase refl refl alike sound.phase;
    }

-- the core of the message's name, which is at this place, receives it alone
pub delivered_at : (message : Sent) (cores : List Core) (k : ℕ) (core : Core) → AreApart cores → slice_get cores k ≡ Some core
    → is_core message.core core.core ≡ true → delivered message cores ≡ set cores k (received core message.write)
delivered_at message cores k core apart found is =
    changed_at message.core (λ (other : Core). received other message.write) cores k core apart found is

-- the core that a message in flight is to is there
pub core_is_there : (b : Bucket) (at : ℕ) (message : Sent) → IsSound b → slice_get b.flight.messages at ≡ Some message
    → Contains (map name_of b.replicas) message.core
core_is_there b at message sound found = (All-slice_get (IsSent b) b.flight.messages at message sound.messages.each found).core

-- and it has room for what the message brings
pub core_has_room : (b : Bucket) (at : ℕ) (message : Sent) (k : ℕ) (core : Core) → IsSound b
    → slice_get b.flight.messages at ≡ Some message → slice_get b.replicas k ≡ Some core → is_core message.core core.core ≡ true
    → (0 < core.cell_spare) × (0 < core.buffer_spare)
core_has_room b at message k core sound found there is =
    let spare = All-slice_get (HasSpare b.flight.messages b.feeds) b.replicas k core sound.room there in
    let named : core.core ≡ message.core = sym ((is_core-Decides message.core core.core).0 is) in
    let one = taken-own b.flight.messages at message core.core found ((is_core-Decides core.core message.core).1 named) in
    let all = length-pending b.flight.messages b.feeds core in
    (omega (arith, spare.cells, one.count, all), omega (arith, spare.buffer, one.count))

-- what the search for a message's core finds is known by its place
pub place_of_core : (cores : List Core) (name : CoreId) (found : Option ℕ) (k : ℕ) → IsCoreFound cores name found → found ≡ Some k
    → (there : Core) × (slice_get cores k ≡ Some there) × (is_core name there.core ≡ true)
place_of_core cores name found k is same = subst (IsCoreFound cores name) same is

-- the core at a place has the name of each that is found there
pub named_at : (cores : List Core) (name : CoreId) (k : ℕ) (core there : Core) → slice_get cores k ≡ Some core
    → slice_get cores k ≡ Some there → is_core name there.core ≡ true → is_core name core.core ≡ true
named_at cores name k core there one other named =
    ap (λ (c : Core). is_core name c.core) (same_Some core there (sym one ∙ other)) ∙ named

-- the cores are those to which the message was delivered, where the one at that place received its write
pub delivered_there : (b : Bucket) (message : Sent) (found : Option ℕ) (k : ℕ) (cores : List Core) → IsSound b
    → IsCoreFound b.replicas message.core found → found ≡ Some k
    → ((core : Core) → slice_get b.replicas k ≡ Some core → cores ≡ set b.replicas k (received core message.write))
    → cores ≡ delivered message b.replicas
delivered_there b message found k cores sound is same received_there =
    let (core, there, named) = place_of_core b.replicas message.core found k is same in
    received_there core there
    ∙ sym (delivered_at message b.replicas k core (AreApart-from_ascending b.replicas sound.cores.ascend) there named)

-- and so the bucket is sound
pub IsSound-received : (b : Bucket) (at : ℕ) (message : Sent) (flight : FlightState) (found : Option ℕ) (k : ℕ) (cores : List Core)
    → IsSound b → slice_get b.flight.messages at ≡ Some message → flight ≡ record b.flight { messages = remove b.flight.messages at }
    → IsCoreFound b.replicas message.core found → found ≡ Some k
    → ((core : Core) → slice_get b.replicas k ≡ Some core → cores ≡ set b.replicas k (received core message.write))
    → IsSound (with_cores b flight cores)
IsSound-received b at message flight found k cores sound there left is same received_there =
    subst (λ these. IsSound (with_cores b flight these)) (sym (delivered_there b message found k cores sound is same received_there))
    (IsSound-delivered b at message flight sound there (ap (λ (f : FlightState). f.messages) left))

-- which was delivered the message
pub Delivers-received : (b : Bucket) (at : ℕ) (message : Sent) (flight : FlightState) (found : Option ℕ) (k : ℕ) (cores : List Core)
    → IsSound b → slice_get b.flight.messages at ≡ Some message → flight ≡ record b.flight { messages = remove b.flight.messages at }
    → IsCoreFound b.replicas message.core found → found ≡ Some k
    → ((core : Core) → slice_get b.replicas k ≡ Some core → cores ≡ set b.replicas k (received core message.write))
    → Delivers b at message (with_cores b flight cores)
Delivers-received b at message flight found k cores sound there left is same received_there = record {
  name = record { first = refl; limit = refl; filed = refl };
  split = record { phase = refl; feeds = refl };
  map_is = refl;
  entries = refl;
  found = there;
  messages = ap (λ (f : FlightState). f.messages) left;
  cores = delivered_there b message found k cores sound is same received_there;
  searchers_are = refl;
}

-- the message that was found first is the one that was delivered
pub DeliversFirst-at : (old : Bucket) (place at : ℕ) (core : CoreId) (new : Bucket)
    → (message : Sent) × IsFirstOf place old.flight.messages at message
    → (message : Sent) × Delivers old at message new × (message.core ≡ core) → DeliversFirst old place core new
DeliversFirst-at old place at core new (message, first) (other, delivers, core_is) =
    let same : message ≡ other = same_Some message other (sym first.found ∙ delivers.found) in
    record {
      at = at;
      message = other;
      first = subst (IsFirstOf place old.flight.messages at) same first;
      core_is = core_is;
      delivers = delivers;
    }
