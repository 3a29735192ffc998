-- A bucket is sound once a follower was marked as down.
use Rattle.std.proofs.Common.{◌≡◌, ◌⊎◌, ◌∙◌, ◌≤◌, ◌+◌, ◌-◌, ℕ, Bool, true, false, cond, not, List, [], ◌∷◌, ◌++◌, length, map, set, slice_get, All, Contains, Option, Some, IsSome, refl, sym, ap, subst, arith}
use Rattle.std.specs.List.{IsDistinct}
use Rattle.std.proofs.lemmas.Bool.{and_parts}
use Rattle.std.proofs.lemmas.List.{length_push}
use Rattle.std.proofs.lemmas.List.Elements.{All-contains, All-map, All-weaker}
use Rattle.sc_record.specs.Names.{key_of_core, is_core}
use Rattle.sc_record.specs.Writes.{write_of, Write}
use Rattle.sc_record.specs.declared.slice.CoreId.{CoreId}
use Rattle.sc_record.specs.declared.entry.Entry.{Entry}
use Rattle.sc_record.specs.declared.entry.Entry.TheVariants as entry
use Rattle.sc_cluster.specs.declared.slice.Slice.{Slice}
use Rattle.sc_cluster.specs.Map.{IsMap}
use Rattle.sc_cluster.specs.Slices.{is_inactive}
use Rattle.sc_cluster.proofs.ListLemmas.{Contains-from_filter}
use Rattle.sc_replica.specs.Core.{Core}
use Rattle.sc_journal.specs.Journal.{writes, write_at, is_settled, unsettled}
use Rattle.sc_journal.specs.Committed.{committed, last_commit}
use Rattle.sc_journal.specs.Down.{is_down, IsFollower}
use Rattle.sc_journal.specs.Seats.{seats}
use Rattle.sc_journal.specs.Splits.{map_after, open_split, owed}
use Rattle.sc_journal.specs.Legal.{MayGoDown, IsLegal}
use Rattle.sc_journal.proofs.JournalLemmas.{writes-push_other, write_at-append, write_at_within}
use Rattle.sc_journal.proofs.CommittedLemmas.{committed-push_other, last_commit-push_other}
use Rattle.sc_journal.proofs.SettledLemmas.{unsettled-push_other, is_settled-push_other}
use Rattle.sc_journal.proofs.DownLemmas.{is_down-push_down, is_down-push_down_other}
use Rattle.sc_journal.proofs.SeatLemmas.{seats-left}
use Rattle.sc_journal.proofs.SplitLemmas.{LeavesSlices-down, map_after-left, open_split-left}
use Rattle.sc_journal.proofs.LegalLemmas.{IsLegal-push}
use Rattle.sc_journal.proofs.OwedLemmas.{owed-push_down}
use Rattle.sc_bucket.specs.declared.bucket.Bucket.{Bucket}
use Rattle.sc_bucket.specs.Kept.{JournalState, Sent, FlightState, FeedState}
use Rattle.sc_replicas.specs.Cores.{core_key, IsCoreWithoutRoom}
use Rattle.sc_bucket.specs.Flight.{is_to, is_same_message}
use Rattle.sc_bucket.specs.Pending.{pending}
use Rattle.sc_bucket.specs.Sound.{AreActive, HasJournal, IsInRange, IsSent, AreSent, HasSpare, IsMarked, is_idle, IsInPhase, IsSound}
use Rattle.sc_bucket.specs.Events.{CanDetach, detached, Detaches}
use Rattle.sc_replicas.proofs.CoreLemmas.{is_core-Decides, IsCoreFound, AreApart-from_ascending}
use Rattle.sc_bucket.proofs.SearcherLemmas.{HasSearchers-grown}
use Rattle.sc_bucket.proofs.FollowerLemmas.{IsDistinct-filter, All-from_contains, negated}
use Rattle.sc_bucket.proofs.AcceptLemmas.{bucket_has_map}
use Rattle.sc_bucket.proofs.SoundLemmas.{name_and_mode, AreAlike, AreAlike-map, AreMarked, names-alike, HasCores-alike, AreFeeds-alike, IsInPhase-alike, ArePrepared-same, ServesBy, AreWrittenBy, HasOrAwaitsBy, IsInRangeBy, IsClockBy, all_left}
use Rattle.sc_bucket.proofs.ChangedLemmas.{changed_at}
use Rattle.sc_bucket.proofs.DeliverLemmas.{place_of_core}
use Rattle.sc_bucket.proofs.LeftOutLemmas.{left_out, apart_too, pending-left_out_other, All-pending_left_out, HasSpare-left_out}

-- the core may go down by the journal
may_go_down : (b : Bucket) (name : CoreId) → HasJournal b → CanDetach b name → MayGoDown b.first b.journal.entries name
may_go_down b name journal can = record {
  follower = subst (λ slices. IsFollower slices name) journal.map_is can.follower;
  up = can.up;
}

-- it makes one entry less owed
owed_down : (b : Bucket) (name : CoreId) → HasJournal b → CanDetach b name
    → owed b.first (b.journal.entries ++ entry.Down name ∷ []) + 1 ≡ owed b.first b.journal.entries
owed_down b name journal can =
    owed-push_down b.first b.journal.entries name (subst IsMap journal.map_is (bucket_has_map b journal))
    (may_go_down b name journal can)

-- so one is owed, and has its room
pub owes_down : (b : Bucket) (name : CoreId) → HasJournal b → CanDetach b name → (1 ≤ b.owed) × (1 ≤ b.journal.room)
owes_down b name journal can =
    let less = owed_down b name journal can in
    (omega (arith, less, journal.owed_is), omega (arith, less, journal.owed_is, journal.room))

-- what a detach does with the parts of a bucket that its event doesn't name
pub record DetachesParts (old new : Bucket) : Type 0 where
  pub unsettled_are : new.unsettled.places ≡ old.unsettled.places
  pub owed_is : new.owed + 1 ≡ old.owed
  pub room : new.journal.room + 1 ≡ old.journal.room
  pub spares_are : new.spares ≡ old.spares

-- its journal is as it has to be
HasJournal-detached : (old : Bucket) (name : CoreId) (new : Bucket) → HasJournal old → CanDetach old name
    → Detaches old name new → DetachesParts old new → HasJournal new
HasJournal-detached old name new journal can detaches parts =
    let one : Entry = entry.Down name in
    let legal : IsLegal old.first (old.journal.entries ++ one ∷ []) =
    IsLegal-push old.first old.journal.entries one journal.legal (may_go_down old name journal can) in
    let less = owed_down old name journal can in
    let owes : owed new.first new.journal.entries ≡ owed old.first (old.journal.entries ++ one ∷ []) =
    ap (λ first. owed first new.journal.entries) detaches.kept.first ∙ ap (owed old.first) detaches.entries in
    let longer : length new.journal.entries ≡ length old.journal.entries + 1 =
    ap length detaches.entries ∙ length_push old.journal.entries one in
    record {
      first = subst IsMap (sym detaches.kept.first) journal.first;
      begins = subst AreActive (sym detaches.kept.first) journal.begins;
      legal = subst (λ first. IsLegal first new.journal.entries) (sym detaches.kept.first)
          (subst (IsLegal old.first) (sym detaches.entries) legal);
      map_is = detaches.map_is ∙ journal.map_is
          ∙ sym (map_after-left old.first old.journal.entries one (LeavesSlices-down name))
          ∙ ap (map_after old.first) (sym detaches.entries)
          ∙ ap (λ first. map_after first new.journal.entries) (sym detaches.kept.first);
      unsettled_are = parts.unsettled_are ∙ journal.unsettled_are
          ∙ sym (unsettled-push_other old.journal.entries one refl (λ place. refl)) ∙ ap unsettled (sym detaches.entries);
      owed_is = omega (arith, owes, less, parts.owed_is, journal.owed_is);
      room = omega (arith, parts.room, parts.owed_is, journal.room);
      within = omega (arith, longer, parts.owed_is, detaches.kept.limit, journal.within);
      limit_from = omega (arith, detaches.kept.limit, journal.limit_from);
      limit_to = omega (arith, detaches.kept.limit, journal.limit_to);
    }

-- the core marked as down
abbrev marked : Core → Core
marked core = record core { down = true }

-- what becomes of a core is known by whether it is the one
detached_cases : (P : Core → Type 0) (name : CoreId) (core : Core) → (is_core name core.core ≡ true → P (marked core))
    → (is_core name core.core ≡ false → P core) → P (detached name core)
detached_cases P name core own other = by (is_core name core.core) refl where
  by : (b : Bool) → is_core name core.core ≡ b → P (cond b (marked core) core)
  by true is = own is
  by false is = other is

-- so what is true of each core, and doesn't speak of marks, stays true
all_detached : (P Q : Core → Type 0) (name : CoreId) (cores : List Core)
    → ((core : Core) → P core → (is_core name core.core ≡ true → Q (marked core)) × (is_core name core.core ≡ false → Q core))
    → All P cores → All Q (map (detached name) cores)
all_detached P Q name cores keeps all =
    All-map Q (detached name) cores
    (All-weaker P (λ core. Q (detached name core))
    (λ core is. let both = keeps core is in detached_cases Q name core both.0 both.1) cores all)

-- names and modes stay
AreAlike-detached : (name : CoreId) (cores : List Core) → AreAlike cores (map (detached name) cores)
AreAlike-detached name cores =
    AreAlike-map (detached name)
    (λ core. detached_cases (λ after. name_and_mode after ≡ name_and_mode core) name core (λ own. refl) (λ other. refl)) cores

-- the one core is marked, as the journal says, and the others are as they were
AreMarked-detached : (name : CoreId) (journal : List Entry) (cores : List Core) → AreMarked journal cores
    → AreMarked (journal ++ entry.Down name ∷ []) (map (detached name) cores)
AreMarked-detached name journal cores are =
    all_detached (IsMarked journal) (IsMarked longer) name cores (λ core is. (own core is, other core is)) are
  where
    longer : List Entry
    longer = journal ++ entry.Down name ∷ []

    number : (core : Core) → IsMarked journal core → core.number ≡ seats longer core.core.slice core.core.replica
    number core is =
        is.number
        ∙ ap (λ (core_in : ℕ → ℕ). core_in core.core.replica)
        (sym (seats-left journal (entry.Down name) core.core.slice (λ slice core_in. refl)))

    own : (core : Core) → IsMarked journal core → is_core name core.core ≡ true → IsMarked longer (marked core)
    own core is same = record {
      down = sym (is_down-push_down journal name)
          ∙ ap (λ (id : CoreId). is_down longer (key_of_core id)) ((is_core-Decides name core.core).0 same);
      number = number core is;
    }

    other : (core : Core) → IsMarked journal core → is_core name core.core ≡ false → IsMarked longer core
    other core is apart = record {
      down = is.down ∙ sym (is_down-push_down_other journal name (core_key core) (apart_too name core.core apart));
      number = number core is;
    }

-- what is true of the writes of a core and of those that are pending for it stays true
written_detached : (P : Write → Type 0) (name : CoreId) (messages : List Sent) (feeds : List FeedState) (core : Core)
    → All P core.cells × All P (pending messages feeds core) → All P core.cells × All P (pending (left_out name messages) feeds core)
written_detached P name messages feeds core (cells, waits) = (cells, All-pending_left_out P name messages feeds core waits)

-- the core that is marked is not attached, and for the others the same is pending
held_detached : (slices : List Slice) (all : List Write) (name : CoreId) (messages : List Sent) (feeds : List FeedState) (core : Core)
    → HasOrAwaitsBy slices all messages feeds core
    → (is_core name core.core ≡ true → HasOrAwaitsBy slices all (left_out name messages) feeds (marked core))
    × (is_core name core.core ≡ false → HasOrAwaitsBy slices all (left_out name messages) feeds core)
held_detached slices all name messages feeds core held = (own, other) where
  own : is_core name core.core ≡ true → HasOrAwaitsBy slices all (left_out name messages) feeds (marked core)
  own same slice there named attached id write within last =
      let (stays, up) = and_parts (not (is_inactive slice)) false attached in
      absurd (cc)

  other : is_core name core.core ≡ false → HasOrAwaitsBy slices all (left_out name messages) feeds core
  other apart slice there named attached id write within last =
      subst (λ waits. (write_of core.cells id ≡ Some write) ⊎ Contains waits write)
      (sym (pending-left_out_other name messages feeds core apart)) (held slice there named attached id write within last)

-- a core that is marked is in order as it was, and has its room
in_order_marked : (core : Core) → IsCoreWithoutRoom core → IsCoreWithoutRoom (marked core)
in_order_marked core is = record {
  ascends = is.ascends;
  from_zero = is.from_zero;
  clocked = is.clocked;
  active = is.active;
  cell_room = is.cell_room;
  buffer_room = is.buffer_room;
}

spare_marked : (messages : List Sent) (feeds : List FeedState) (core : Core) → HasSpare messages feeds core
    → HasSpare messages feeds (marked core)
spare_marked messages feeds core spare = record { cells = spare.cells; buffer = spare.buffer }

-- a message to another core is of a write that is not settled, and to a core that is there and not down still
sent_still : (old : Bucket) (name : CoreId) (new : Bucket) (message : Sent) → Detaches old name new
    → is_core name message.core ≡ false → IsSent old message → IsSent new message
sent_still old name new message detaches apart sent =
    let one : Entry = entry.Down name in
    let written : IsSome (write_at old.journal.entries message.place) = subst IsSome (sym sent.write) refl in
    record {
      write = ap (λ entries. write_at entries message.place) detaches.entries
          ∙ write_at-append old.journal.entries (one ∷ []) message.place (write_at_within old.journal.entries message.place written)
          ∙ sent.write;
      unsettled = ap (λ entries. is_settled entries message.place) detaches.entries
          ∙ is_settled-push_other old.journal.entries one message.place (λ place. refl) ∙ sent.unsettled;
      core = subst (λ (names : List CoreId). Contains names message.core)
          (sym (names-alike old.replicas new.replicas
          (subst (AreAlike old.replicas) (sym detaches.cores) (AreAlike-detached name old.replicas)))) sent.core;
      up = ap (λ entries. is_down entries (key_of_core message.core)) detaches.entries
          ∙ is_down-push_down_other old.journal.entries name (key_of_core message.core) (apart_too name message.core apart) ∙ sent.up;
    }

-- so are all that are left
AreSent-detached : (old : Bucket) (name : CoreId) (new : Bucket) → Detaches old name new → AreSent old → AreSent new
AreSent-detached old name new detaches sent = record {
  each = subst (All (IsSent new)) (sym detaches.messages)
      (All-from_contains (IsSent new) (left_out name old.flight.messages) each);
  once = subst (IsDistinct is_same_message) (sym detaches.messages)
      (IsDistinct-filter is_same_message (λ (message : Sent). not (is_to name message)) old.flight.messages sent.once);
} where
  each : (message : Sent) → Contains (left_out name old.flight.messages) message → IsSent new message
  each message there =
      let (inside, passes) = Contains-from_filter (λ (one : Sent). not (is_to name one)) old.flight.messages message there in
      sent_still old name new message detaches (negated (is_core name message.core) passes)
      (All-contains (IsSent old) old.flight.messages message sent.each inside)

-- and so the bucket is sound
pub IsSound-detached : (old : Bucket) (name : CoreId) (new : Bucket) → IsSound old → CanDetach old name
    → Detaches old name new → DetachesParts old new → IsSound new
IsSound-detached old name new sound can detaches parts =
    let one : Entry = entry.Down name in
    let all : List Write = writes old.journal.entries in
    let left : List Sent = left_out name old.flight.messages in
    let same : writes new.journal.entries ≡ writes old.journal.entries =
    ap writes detaches.entries ∙ writes-push_other old.journal.entries one refl in
    let same_split : open_split new.journal.entries ≡ open_split old.journal.entries =
    ap open_split detaches.entries ∙ open_split-left old.journal.entries one (LeavesSlices-down name) in
    let alike : AreAlike old.replicas new.replicas =
    subst (AreAlike old.replicas) (sym detaches.cores) (AreAlike-detached name old.replicas) in
    let marks : AreMarked new.journal.entries new.replicas =
    subst (λ entries. AreMarked entries new.replicas) (sym detaches.entries)
    (subst (AreMarked (old.journal.entries ++ one ∷ [])) (sym detaches.cores)
    (AreMarked-detached name old.journal.entries old.replicas sound.cores.marked)) in
    let same_idle : is_idle new.phase ≡ is_idle old.phase = ap is_idle detaches.split.phase in
    record {
      journal = HasJournal-detached old name new sound.journal can detaches parts;
      leaders = all_left (λ slices these _ _. ServesBy slices these) old.map new.map all (writes new.journal.entries)
          left new.flight.messages old.feeds new.feeds new.replicas detaches.map_is same detaches.messages detaches.split.feeds
          (subst (All (ServesBy old.map all)) (sym detaches.cores)
          (all_detached (ServesBy old.map all) (ServesBy old.map all) name old.replicas
          (λ core is. (λ own. is, λ other. is)) sound.leaders));
      written = all_left (λ _ these sent fed. AreWrittenBy these sent fed) old.map new.map all (writes new.journal.entries)
          left new.flight.messages old.feeds new.feeds new.replicas detaches.map_is same detaches.messages detaches.split.feeds
          (subst (All (AreWrittenBy all left old.feeds)) (sym detaches.cores)
          (all_detached (AreWrittenBy all old.flight.messages old.feeds) (AreWrittenBy all left old.feeds) name old.replicas
          (λ core is. let after = written_detached (Contains all) name old.flight.messages old.feeds core is in
          (λ own. after, λ other. after)) sound.written));
      held = all_left (λ slices these sent fed. HasOrAwaitsBy slices these sent fed) old.map new.map all (writes new.journal.entries)
          left new.flight.messages old.feeds new.feeds new.replicas detaches.map_is same detaches.messages detaches.split.feeds
          (subst (All (HasOrAwaitsBy old.map all left old.feeds)) (sym detaches.cores)
          (all_detached (HasOrAwaitsBy old.map all old.flight.messages old.feeds) (HasOrAwaitsBy old.map all left old.feeds) name
          old.replicas (held_detached old.map all name old.flight.messages old.feeds) sound.held));
      in_range = all_left (λ slices _ sent fed. IsInRangeBy slices sent fed) old.map new.map all (writes new.journal.entries)
          left new.flight.messages old.feeds new.feeds new.replicas detaches.map_is same detaches.messages detaches.split.feeds
          (subst (All (IsInRangeBy old.map left old.feeds)) (sym detaches.cores)
          (all_detached (IsInRangeBy old.map old.flight.messages old.feeds) (IsInRangeBy old.map left old.feeds) name old.replicas
          (λ core is. let after : IsInRangeBy old.map left old.feeds core = λ slice there named.
          written_detached (IsInRange slice) name old.flight.messages old.feeds core (is slice there named) in
          (λ own. after, λ other. after)) sound.in_range));
      clocks = all_left (λ _ these _ _. IsClockBy these) old.map new.map all (writes new.journal.entries)
          left new.flight.messages old.feeds new.feeds new.replicas detaches.map_is same detaches.messages detaches.split.feeds
          (subst (All (IsClockBy all)) (sym detaches.cores)
          (all_detached (IsClockBy all) (IsClockBy all) name old.replicas (λ core is. (λ own. is, λ other. is)) sound.clocks));
      in_order = subst (All IsCoreWithoutRoom) (sym detaches.cores)
          (all_detached IsCoreWithoutRoom IsCoreWithoutRoom name old.replicas
          (λ core is. (λ own. in_order_marked core is, λ other. is)) sound.in_order);
      searchers = HasSearchers-grown old new detaches.map_is detaches.searchers_are
          (ap last_commit detaches.entries ∙ last_commit-push_other old.journal.entries one refl)
          (ap committed detaches.entries ∙ committed-push_other old.journal.entries one refl)
          (λ write there. subst (λ (these : List Write). Contains these write) (sym same) there) sound.searchers;
      prepared = ArePrepared-same old new detaches.split.phase detaches.map_is detaches.searchers_are parts.spares_are sound.prepared;
      messages = AreSent-detached old name new detaches sound.messages;
      room = subst (λ (these : List Sent). All (HasSpare these new.feeds) new.replicas) (sym detaches.messages)
          (subst (λ (feeds : List FeedState). All (HasSpare left feeds) new.replicas) (sym detaches.split.feeds)
          (subst (All (HasSpare left old.feeds)) (sym detaches.cores)
          (all_detached (HasSpare old.flight.messages old.feeds) (HasSpare left old.feeds) name old.replicas
          (λ core is. let after = HasSpare-left_out name old.flight.messages old.feeds core is in
          (λ own. spare_marked left old.feeds core after, λ other. after)) sound.room)));
      cores = HasCores-alike old new same_idle detaches.map_is alike marks sound.cores;
      feeds = AreFeeds-alike old new same_idle detaches.map_is detaches.split.feeds alike sound.feeds;
      phase = subst (IsInPhase new) (sym detaches.split.phase)
          (IsInPhase-alike old new old.phase same_split detaches.map_is alike sound.phase);
    }

-- the bucket with this journal, these messages in flight and these cores, which owes one entry less
abbrev pub with_down : Bucket → JournalState → FlightState → List Core → Bucket
with_down b journal flight cores = record b { journal = journal; flight = flight; replicas = cores; owed = b.owed - 1 }

-- which was detached, where the core at the place that was found is marked
pub Detaches-marked : (b : Bucket) (name : CoreId) (journal : JournalState) (flight : FlightState) (cores : List Core)
    (found : Option ℕ) (k : ℕ) → IsSound b → IsCoreFound b.replicas name found → found ≡ Some k
    → ((core : Core) → slice_get b.replicas k ≡ Some core → cores ≡ set b.replicas k (marked core))
    → flight ≡ record b.flight { messages = left_out name b.flight.messages }
    → journal ≡ record b.journal { entries = b.journal.entries ++ entry.Down name ∷ []; room = b.journal.room - 1 }
    → Detaches b name (with_down b journal flight cores)
Detaches-marked b name journal flight cores found k sound is same cores_are flight_is journal_is =
    let (core, there, named) = place_of_core b.replicas name found k is same in
    record {
      kept = record { first = refl; limit = refl; filed = ap (λ (j : JournalState). j.filed) journal_is };
      split = record { phase = refl; feeds = refl };
      map_is = refl;
      entries = ap (λ (j : JournalState). j.entries) journal_is;
      messages = ap (λ (f : FlightState). f.messages) flight_is;
      cores = cores_are core there
          ∙ sym (changed_at name marked b.replicas k core (AreApart-from_ascending b.replicas sound.cores.ascend) there named);
      searchers_are = refl;
    }

-- and so the bucket is sound
pub IsSound-marked : (b : Bucket) (name : CoreId) (journal : JournalState) (flight : FlightState) (cores : List Core)
    → IsSound b → CanDetach b name → Detaches b name (with_down b journal flight cores)
    → journal ≡ record b.journal { entries = b.journal.entries ++ entry.Down name ∷ []; room = b.journal.room - 1 }
    → IsSound (with_down b journal flight cores)
IsSound-marked b name journal flight cores sound can detaches journal_is =
    let owes = owes_down b name sound.journal can in
    let left : journal.room ≡ b.journal.room - 1 = ap (λ (j : JournalState). j.room) journal_is in
    IsSound-detached b name (with_down b journal flight cores) sound can detaches (record {
      unsettled_are = refl;
      owed_is = omega (arith, owes.0);
      room = omega (arith, owes.1, left);
      spares_are = refl;
    })
