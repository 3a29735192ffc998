-- A bucket is sound once a new core, with its feed, took the place of a follower that was down.
use Rattle.std.proofs.Common.{◌≡◌, ◌≢◌, ◌∙◌, ℕ, ◌+◌, ◌-◌, ◌≤◌, true, false, List, [], ◌∷◌, ◌++◌, map, set, slice_get, Option, Some, All, Contains, refl, sym, ap, subst, arith}
use Rattle.std.specs.List.{IsDistinct}
use Rattle.std.proofs.lemmas.Bool.{false_from_ne_true}
use Rattle.std.proofs.lemmas.List.Elements.{All-contains, All-weaker}
use Rattle.std.proofs.lemmas.Option.{slice_get_within, slice_get-get_or}
use Rattle.sc_record.specs.Names.{key_of_core, is_core}
use Rattle.sc_record.specs.declared.slice.CoreId.{CoreId}
use Rattle.sc_record.specs.Writes.{Write}
use Rattle.sc_record.specs.declared.entry.Entry.{Entry}
use Rattle.sc_record.specs.declared.entry.Entry.TheVariants as entry
use Rattle.sc_cluster.specs.declared.slice.State.TheVariants as states
use Rattle.sc_cluster.specs.declared.slice.Slice.{Slice}
use Rattle.sc_cluster.specs.Map.{IsMap}
use Rattle.sc_cluster.proofs.LeaderLemmas.{same_from_id}
use Rattle.sc_ulog.specs.declared.mode.Mode.TheVariants.{Active}
use Rattle.sc_replica.specs.Core.{Core}
use Rattle.sc_journal.specs.Journal.{writes}
use Rattle.sc_journal.specs.Committed.{committed, last_commit}
use Rattle.sc_journal.specs.Down.{is_down, IsFollower}
use Rattle.sc_journal.specs.Seats.{seats}
use Rattle.sc_journal.specs.Legal.{MayComeUp}
use Rattle.sc_journal.specs.Splits.{open_split}
use Rattle.sc_journal.proofs.CommittedLemmas.{committed-push_other, last_commit-push_other}
use Rattle.sc_journal.proofs.DownLemmas.{is_down-push_up, is_down-push_up_other}
use Rattle.sc_journal.proofs.FollowerLemmas.{follower_is}
use Rattle.sc_journal.proofs.JournalLemmas.{writes-push_other}
use Rattle.sc_journal.proofs.OwedLemmas.{owed-push_up}
use Rattle.sc_journal.proofs.SeatLemmas.{seats-left}
use Rattle.sc_journal.proofs.SplitLemmas.{LeavesSlices-up, map_after-left, open_split-left}
use Rattle.sc_bucket.specs.Kept.{JournalState, Sent, FeedState}
use Rattle.sc_replicas.specs.Cores.{core_key, IsCoreWithoutRoom}
use Rattle.sc_bucket.specs.Flight.{in_flight, is_to, is_same_message}
use Rattle.sc_bucket.specs.Pending.{pending}
use Rattle.sc_bucket.specs.Room.{BucketHasRoom}
use Rattle.sc_bucket.specs.Sound.{HasJournal, Serves, IsMarked, IsSent, AreSent, is_idle, may_catch_up, HasCores, AreFeeds, IsInPhase, IsSound}
use Rattle.sc_bucket.specs.declared.bucket.Bucket.{Bucket}
use Rattle.sc_bucket.specs.declared.phase.Phase.{Phase}
use Rattle.sc_bucket.proofs.AcceptLemmas.{bucket_has_map}
use Rattle.sc_replicas.proofs.CoreLemmas.{name_of, is_core-Decides, IsCoreFound}
use Rattle.sc_bucket.proofs.DeliverLemmas.{place_of_core}
use Rattle.sc_bucket.proofs.LeftOutLemmas.{apart_too}
use Rattle.sc_bucket.proofs.PlaceLemmas.{slice_get-set, All-set_apart}
use Rattle.sc_bucket.proofs.SearcherLemmas.{HasSearchers-grown}
use Rattle.sc_bucket.proofs.SoundLemmas.{All-slice_get, name_and_mode, set-kept, AreMarked, HasCores-named, AreFeeds-alike, IsIdle-same}
use Rattle.sc_bucket.proofs.TakenLemmas.{Contains-slice_get}
use Rattle.sc_handover.specs.Conditions.{CanRejoin}
use Rattle.sc_handover.specs.Parts.{CanFollow, IsMade}
use Rattle.sc_handover.proofs.CaughtUpLemmas.{follower_catches_up}
use Rattle.sc_handover.proofs.ChangedLemmas.{with_fed, apart_from}
use Rattle.sc_handover.proofs.EachCoreLemmas.{IsSoundWith, each_with, IsSound-each}
use Rattle.sc_handover.proofs.FollowingLemmas.{IsReadyToFollow, core_named, IsSoundFed, other_is_sound, core_is_sound, AreFeeds-followed}
use Rattle.sc_handover.proofs.KeptLemmas.{same_number}
use Rattle.sc_handover.proofs.MadeLemmas.{in_order-made}
use Rattle.sc_handover.proofs.PlacedLemmas.{slice_get-set_other}
use Rattle.sc_handover.proofs.PushedLemmas.{HasJournal-longer}
use Rattle.sc_handover.proofs.SameWritesLemmas.{same_writes_is_sound}
use Rattle.sc_handover.proofs.SentLemmas.{IsSent-push}
use Rattle.sc_handover.proofs.SettleSubsLemmas.{in_flight-no_message}

-- a follower of an active slice may be fed from its leader, which has the last writes
pub CanFollow-rejoined : (b : Bucket) (name : CoreId) → IsSound b → IsFollower b.map name → (slice : Slice) × CanFollow b name slice
CanFollow-rejoined b name sound (slice, in_map, active, follower) =
    let number = follower_is slice (key_of_core name) follower in (
      slice,
      record {
        there = in_map;
        of_slice = same_number name.slice slice.id number.0;
        above = omega (arith, number.1);
        led = λ leader there is.
            (All-contains (λ (c : Core). (s : Slice) → Contains b.map s → s.id ≡ c.core.slice → Serves b.journal.entries s c)
            b.replicas leader sound.leaders there slice in_map (sym is.0) active is.1).1;
      },
    )

-- a message is to no core that is down
not_down : (b : Bucket) (name : CoreId) (message : Sent) → is_down b.journal.entries (key_of_core name) ≡ true → IsSent b message
    → is_core name message.core ≡ false
not_down b name message down sent = false_from_ne_true (is_core name message.core) (λ same.
    let one : name ≡ message.core = (is_core-Decides name message.core).0 same in
    let both : true ≡ false =
    sym down ∙ ap (λ (n : CoreId). is_down b.journal.entries (key_of_core n)) one ∙ sent.up in
    cc)

-- so a core that was made for a follower that is down is ready to follow
pub ready_to_rejoin : (b : Bucket) (name : CoreId) (slice : Slice) (core : Core) (feed : FeedState) → IsSound b → CanRejoin b name
    → CanFollow b name slice → IsMade b name slice core feed → IsReadyToFollow b name slice core feed
ready_to_rejoin b name slice core feed sound can follows made = record {
  sound = sound;
  can = follows;
  made = made;
  unsent = in_flight-no_message b.flight.messages name
      (All-weaker (IsSent b) (λ (message : Sent). is_to name message ≡ false)
      (λ message. not_down b name message can.down) b.flight.messages sound.messages.each);
  unfed = can.unfed;
}

-- the core of the name is at this place, and the new one was made for it
pub record MayRejoin (b : Bucket) (name : CoreId) (slice : Slice) (fresh : Core) (feed : FeedState) (at : ℕ) (before : Core)
    : Type 0 where
  pub ready : IsReadyToFollow b name slice fresh feed
  pub can : CanRejoin b name
  pub active : slice.state ≡ states.Active
  pub there : slice_get b.replicas at ≡ Some before
  pub named : before.core ≡ name

-- which is so where a core of the name is found there
pub may_rejoin : (b : Bucket) (name core : CoreId) (slice : Slice) (fresh : Core) (feed : FeedState) (found : Option ℕ) (at : ℕ)
    → IsSound b → CanRejoin b name → CanFollow b name slice → IsMade b name slice fresh feed → core ≡ fresh.core
    → IsCoreFound b.replicas core found → found ≡ Some at → (before : Core) × MayRejoin b core slice fresh feed at before
may_rejoin b name core slice fresh feed found at sound can follows made is_fresh is same =
    let named : name ≡ core = sym (core_named b name slice fresh feed made) ∙ sym is_fresh in
    let (before, there, own) =
    place_of_core b.replicas name found at (subst (λ (n : CoreId). IsCoreFound b.replicas n found) (sym named) is) same in
    let (one, in_map, active, follower) = can.follower in
    let alike : one ≡ slice = same_from_id b.map one slice (bucket_has_map b sound.journal) in_map follows.there
    (same_number one.id name.slice (sym (follower_is one (key_of_core name) follower).0) ∙ follows.of_slice) in
    subst (λ (n : CoreId). (c : Core) × MayRejoin b n slice fresh feed at c) named (
      before,
      record {
        ready = ready_to_rejoin b name slice fresh feed sound can follows made;
        can = can;
        active = ap (λ (s : Slice). s.state) (sym alike) ∙ active;
        there = there;
        named = sym ((is_core-Decides name before.core).0 own);
      },
    )

-- the bucket with this journal, these feeds and these cores, which owes one entry more
abbrev pub with_rejoined : Bucket → JournalState → List FeedState → List Core → Bucket
with_rejoined b journal feeds cores = record b { journal = journal; feeds = feeds; replicas = cores; owed = b.owed + 1 }

-- the core with the number of another
abbrev pub numbered : ℕ → Core → Core
numbered number core = record core { number = number }

-- the journal with the entry that says so
abbrev pub longer : Bucket → CoreId → List Entry
longer b name = b.journal.entries ++ entry.Up name ∷ []

-- the number is of no matter to what is pending for a core, nor to whether it is in order
numbered_is_sound : (b : Bucket) (feeds : List FeedState) (number : ℕ) (core : Core) → IsSoundFed b feeds core
    → IsSoundFed b feeds (numbered number core)
numbered_is_sound b feeds number core sound = record {
  serves = sound.serves;
  written = sound.written;
  held = sound.held;
  in_range = sound.in_range;
  clock = sound.clock;
  cell_room = sound.cell_room;
  buffer_room = sound.buffer_room;
}

in_order_numbered : (number : ℕ) (core : Core) → IsCoreWithoutRoom core → IsCoreWithoutRoom (numbered number core)
in_order_numbered number core is = record {
  ascends = is.ascends;
  from_zero = is.from_zero;
  clocked = is.clocked;
  active = is.active;
  cell_room = is.cell_room;
  buffer_room = is.buffer_room;
}

-- ---- the journal
may_come_up : (b : Bucket) (name : CoreId) → IsSound b → CanRejoin b name → MayComeUp b.first b.journal.entries name
may_come_up b name sound can = record {
  idle = (subst (IsInPhase b) can.idle sound.phase).idle;
  follower = subst (λ slices. IsFollower slices name) sound.journal.map_is can.follower;
  down = can.down;
}

HasJournal-rejoined : (b : Bucket) (name : CoreId) (journal : JournalState) (feeds : List FeedState) (cores : List Core) → IsSound b
    → CanRejoin b name → b.owed + 2 ≤ b.journal.room → BucketHasRoom 2 b
    → journal ≡ record b.journal { entries = longer b name; room = b.journal.room - 1 } → HasJournal (with_rejoined b journal feeds cores)
HasJournal-rejoined b name journal feeds cores sound can memory has_room journal_is =
    let has = sound.journal in
    let may = may_come_up b name sound can in
    let more = owed-push_up b.first b.journal.entries name (subst IsMap has.map_is (bucket_has_map b has)) may in
    let left : journal.room ≡ b.journal.room - 1 = ap (λ (j : JournalState). j.room) journal_is in
    HasJournal-longer b (with_rejoined b journal feeds cores) (entry.Up name) has may refl (λ place. refl)
    (record {
      name = record { first = refl; limit = refl; filed = ap (λ (j : JournalState). j.filed) journal_is };
      entries = ap (λ (j : JournalState). j.entries) journal_is;
      map_is = has.map_is ∙ sym (map_after-left b.first b.journal.entries (entry.Up name) (LeavesSlices-up name));
      unsettled_are = refl;
      owed_is = omega (arith, more, has.owed_is);
      room = omega (arith, memory, left);
      within = omega (arith, has_room, has.owed_is);
    })

-- ---- the cores
-- the names stay
names_rejoined : (b : Bucket) (name : CoreId) (slice : Slice) (fresh : Core) (feed : FeedState) (at : ℕ) (before : Core)
    → MayRejoin b name slice fresh feed at before
    → map name_of (set b.replicas at (numbered before.number fresh)) ≡ map name_of b.replicas
names_rejoined b name slice fresh feed at before may =
    set-kept name_of b.replicas at before (numbered before.number fresh) may.there
    (core_named b name slice fresh feed may.ready.made ∙ sym may.named)

-- each has the mark and the number that the journal gives it
marked_rejoined : (b : Bucket) (name : CoreId) (slice : Slice) (fresh : Core) (feed : FeedState) (at : ℕ) (before : Core)
    → MayRejoin b name slice fresh feed at before
    → AreMarked (longer b name) (set b.replicas at (numbered before.number fresh))
marked_rejoined b name slice fresh feed at before may =
    All-set_apart (IsMarked (longer b name)) b.replicas at (numbered before.number fresh)
    (record {
      down = ap (λ (c : Core). c.down) may.ready.made.core_is
          ∙ sym (ap (λ (n : CoreId). is_down (longer b name) (key_of_core n)) named ∙ is_down-push_up b.journal.entries name);
      number = (marked at before may.there).number
          ∙ ap (λ (n : CoreId). seats b.journal.entries n.slice n.replica) (may.named ∙ sym named)
          ∙ sym (same_seats fresh.core);
    })
    (λ k other differ is. record {
      down = (marked k other is).down
          ∙ sym (is_down-push_up_other b.journal.entries name (core_key other)
          (ap (is_core other.core) (sym may.named) ∙ apart_from b at k before other may.ready.sound may.there is differ));
      number = (marked k other is).number ∙ sym (same_seats other.core);
    })
  where
    named : fresh.core ≡ name
    named = core_named b name slice fresh feed may.ready.made

    marked : (k : ℕ) (c : Core) → slice_get b.replicas k ≡ Some c → IsMarked b.journal.entries c
    marked k c is = All-slice_get (IsMarked b.journal.entries) b.replicas k c may.ready.sound.cores.marked is

    same_seats : (n : CoreId) → seats (longer b name) n.slice n.replica ≡ seats b.journal.entries n.slice n.replica
    same_seats n = ap (λ core_in. core_in n.replica) (seats-left b.journal.entries (entry.Up name) n.slice (λ _ _. refl))

HasCores-rejoined : (b new : Bucket) (name : CoreId) (slice : Slice) (fresh : Core) (feed : FeedState) (at : ℕ) (before : Core)
    → MayRejoin b name slice fresh feed at before → new.map ≡ b.map → new.phase ≡ b.phase → new.journal.entries ≡ longer b name
    → new.replicas ≡ set b.replicas at (numbered before.number fresh) → HasCores new
HasCores-rejoined b new name slice fresh feed at before may same_map same_phase entries cores_are =
    HasCores-named b new same_map (ap (map name_of) cores_are ∙ names_rejoined b name slice fresh feed at before may)
    (subst (All (Of new.map new.phase)) (sym cores_are)
    (subst (λ slices. All (Of slices new.phase) cores) (sym same_map)
    (subst (λ phase. All (Of b.map phase) cores) (sym same_phase)
    (All-set_apart (Of b.map b.phase) b.replicas at (numbered before.number fresh) own
    (λ k other differ is. All-slice_get (Of b.map b.phase) b.replicas k other sound.cores.active is)))))
    (subst (λ these. AreMarked these new.replicas) (sym entries)
    (subst (AreMarked (longer b name)) (sym cores_are) (marked_rejoined b name slice fresh feed at before may))) sound.cores
  where
    sound : IsSound b
    sound = may.ready.sound

    cores : List Core
    cores = set b.replicas at (numbered before.number fresh)

    Of : List Slice → Phase → Core → Type 0
    Of slices phase core = (one : Slice) → Contains slices one → one.id ≡ core.core.slice
        → may_catch_up phase one core.core ≡ false → core.mode ≡ Active

    own : Of b.map b.phase (numbered before.number fresh)
    own one there of_core caught_up =
        let named = core_named b name slice fresh feed may.ready.made in
        let same : one ≡ slice = same_from_id b.map one slice (bucket_has_map b sound.journal) there may.ready.can.there
        (of_core ∙ ap (λ (n : CoreId). n.slice) named ∙ may.ready.can.of_slice) in
        let catches : may_catch_up b.phase one fresh.core ≡ true =
        ap (λ s. may_catch_up b.phase s fresh.core) same ∙ ap (may_catch_up b.phase slice) named
        ∙ follower_catches_up b.phase slice name may.can.idle may.active may.ready.can.above in
        let both : true ≡ false = sym catches ∙ caught_up in
        absurd (cc)

-- ---- the messages and the feeds
AreSent-rejoined : (b new : Bucket) (name : CoreId) → IsSound b → CanRejoin b name → new.journal.entries ≡ longer b name
    → new.flight.messages ≡ b.flight.messages → map name_of new.replicas ≡ map name_of b.replicas → AreSent new
AreSent-rejoined b new name sound can entries same names = record {
  each = subst (All (IsSent new)) (sym same)
      (All-weaker (IsSent b) (IsSent new)
      (λ message is. IsSent-push b new (entry.Up name) message entries (λ _. refl)
      (is_down-push_up_other b.journal.entries name (key_of_core message.core)
      (apart_too name message.core (not_down b name message can.down is)))
      (subst (λ (those : List CoreId). Contains those message.core) (sym names) is.core) is)
      b.flight.messages sound.messages.each);
  once = subst (IsDistinct is_same_message) (sym same) sound.messages.once;
}

AreFeeds-rejoined : (b new : Bucket) (name : CoreId) (slice : Slice) (fresh : Core) (feed : FeedState) (at : ℕ) (before : Core)
    → MayRejoin b name slice fresh feed at before → new.map ≡ b.map → new.phase ≡ b.phase → new.feeds ≡ b.feeds ++ feed ∷ []
    → new.replicas ≡ set b.replicas at (numbered before.number fresh) → AreFeeds new
AreFeeds-rejoined b new name slice fresh feed at before may same_map same_phase feeds_are cores_are =
    AreFeeds-alike (with_fed b (b.feeds ++ feed ∷ []) cores) new (ap is_idle same_phase) same_map feeds_are
    (ap (map name_and_mode) cores_are)
    (AreFeeds-followed b name slice fresh feed cores (numbered before.number fresh) may.ready
    (follower_catches_up b.phase slice name may.can.idle may.active may.ready.can.above) still
    (Contains-slice_get cores at (numbered before.number fresh)
    (slice_get-set b.replicas at (numbered before.number fresh) (slice_get_within b.replicas at before may.there)))
    (core_named b name slice fresh feed may.ready.made) (ap (λ (c : Core). c.mode) may.ready.made.core_is))
  where
    cores : List Core
    cores = set b.replicas at (numbered before.number fresh)

    still : (other : Core) → Contains b.replicas other → is_core name other.core ≡ false → Contains cores other
    still other (k, below, is) apart =
        let found : slice_get b.replicas k ≡ Some other = slice_get-get_or b.replicas k other below ∙ ap (λ c. Some c) is in
        let differ : at ≢ k = λ places.
        let one : Some before ≡ Some other = sym may.there ∙ ap (slice_get b.replicas) places ∙ found in
        let same : before ≡ other = cc in
        let both : true ≡ false =
        sym ((is_core-Decides name other.core).1 (sym may.named ∙ ap (λ (c : Core). c.core) same)) ∙ apart in
        absurd (cc) in
        Contains-slice_get cores k other
        (slice_get-set_other b.replicas at k (numbered before.number fresh) differ ∙ found)

-- ---- so the bucket is sound
pub IsSound-rejoined : (b : Bucket) (name : CoreId) (slice : Slice) (fresh : Core) (feed : FeedState) (at : ℕ) (before : Core)
    (journal : JournalState) (feeds : List FeedState) (cores : List Core) → MayRejoin b name slice fresh feed at before
    → b.owed + 2 ≤ b.journal.room → BucketHasRoom 2 b → journal ≡ record b.journal { entries = longer b name; room = b.journal.room - 1 }
    → feeds ≡ b.feeds ++ feed ∷ [] → cores ≡ set b.replicas at (numbered before.number fresh)
    → IsSound (with_rejoined b journal feeds cores)
IsSound-rejoined b name slice fresh feed at before journal feeds cores may memory has_room journal_is feeds_are cores_are =
    IsSound-each new
    (each_with new b.map (longer b name) b.flight.messages (b.feeds ++ feed ∷ []) placed refl entries refl feeds_are cores_are each)
    (subst (All IsCoreWithoutRoom) (sym cores_are)
    (All-set_apart IsCoreWithoutRoom b.replicas at (numbered before.number fresh)
    (in_order_numbered before.number fresh (in_order-made name fresh may.ready.made.core_is))
    (λ k other differ is. All-slice_get IsCoreWithoutRoom b.replicas k other sound.in_order is)))
    (HasJournal-rejoined b name journal feeds cores sound may.can memory has_room journal_is)
    (HasSearchers-grown b new refl refl
    (ap last_commit entries ∙ last_commit-push_other b.journal.entries one refl)
    (ap committed entries ∙ committed-push_other b.journal.entries one refl)
    (λ write there. subst (λ (these : List Write). Contains these write) (sym (ap writes entries ∙ same_writes)) there)
    sound.searchers)
    sound.prepared
    (AreSent-rejoined b new name sound may.can entries refl
    (ap (map name_of) cores_are ∙ names_rejoined b name slice fresh feed at before may))
    (HasCores-rejoined b new name slice fresh feed at before may refl refl entries cores_are)
    (AreFeeds-rejoined b new name slice fresh feed at before may refl refl feeds_are cores_are)
    (subst (IsInPhase new) (sym may.can.idle)
    (IsIdle-same b new (ap open_split entries ∙ open_split-left b.journal.entries one (LeavesSlices-up name)) refl
    (subst (IsInPhase b) may.can.idle sound.phase)))
  where
    sound : IsSound b
    sound = may.ready.sound

    new : Bucket
    new = with_rejoined b journal feeds cores

    one : Entry
    one = entry.Up name

    placed : List Core
    placed = set b.replicas at (numbered before.number fresh)

    entries : journal.entries ≡ longer b name
    entries = ap (λ (j : JournalState). j.entries) journal_is

    same_writes : writes (longer b name) ≡ writes b.journal.entries
    same_writes = writes-push_other b.journal.entries one refl

    IsNow : Core → Type 0
    IsNow = IsSoundWith b.map (longer b name) b.flight.messages (b.feeds ++ feed ∷ [])

    still : (core : Core) → IsSoundFed b (b.feeds ++ feed ∷ []) core → IsNow core
    still core =
        same_writes_is_sound b.map b.map b.journal.entries (longer b name) (in_flight b.flight.messages core.core)
        (pending b.flight.messages (b.feeds ++ feed ∷ []) core) core same_writes (λ s there named. there)

    each : All IsNow placed
    each =
        All-set_apart IsNow b.replicas at (numbered before.number fresh)
        (still (numbered before.number fresh)
        (numbered_is_sound b (b.feeds ++ feed ∷ []) before.number fresh (core_is_sound b name slice fresh feed may.ready)))
        (λ k other differ is. still other
        (other_is_sound b name slice fresh feed other may.ready (Contains-slice_get b.replicas k other is)
        (apart_too other.core name
        (ap (is_core other.core) (sym may.named) ∙ apart_from b at k before other sound may.there is differ))))
