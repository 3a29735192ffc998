-- A bucket is sound once a follower to which nothing is in flight changed seats with the core that leads, and the new leader has the
-- last writes.
use Rattle.std.proofs.Common.{◌≡◌, ◌∙◌, ℕ, ◌+◌, ◌-◌, ◌≤◌, ◌<ℤ◌, ◌≤ℤ◌, true, false, not, List, map, set, All, Contains, refl, sym, ap, subst, arith}
use Rattle.std.specs.List.{IsDistinct}
use Rattle.std.proofs.lemmas.Int.{ints}
use Rattle.std.proofs.lemmas.List.Elements.{All-contains}
use Rattle.std.proofs.lemmas.Option.{slice_get_within}
use Rattle.sc_record.specs.Names.{key_of_core}
use Rattle.sc_record.specs.Versions.{version_after}
use Rattle.sc_record.specs.declared.slice.SliceId.{SliceId}
use Rattle.sc_record.specs.declared.slice.CoreId.{CoreId}
use Rattle.sc_record.specs.Writes.{Write}
use Rattle.sc_record.specs.declared.entry.Entry.{Entry}
use Rattle.sc_record.specs.declared.entry.Entry.TheVariants as entry
use Rattle.sc_record.proofs.VersionLemmas.{version_after-above_clock}
use Rattle.sc_cluster.specs.Map.{IsMap}
use Rattle.sc_cluster.proofs.LeaderLemmas.{same_from_id}
use Rattle.sc_cluster.proofs.ListLemmas.{Contains-from_filter}
use Rattle.sc_replica.specs.Core.{Core}
use Rattle.sc_journal.specs.Journal.{writes, last_write}
use Rattle.sc_journal.specs.Committed.{committed, last_commit}
use Rattle.sc_journal.specs.Down.{IsFollower}
use Rattle.sc_journal.specs.Legal.{MayLead, IsLegal}
use Rattle.sc_journal.specs.Splits.{open_split, owed}
use Rattle.sc_journal.proofs.CommittedLemmas.{committed-push_other, last_commit-push_other}
use Rattle.sc_journal.proofs.DownLemmas.{is_down-push_led_other}
use Rattle.sc_journal.proofs.JournalLemmas.{last_write-push_other, writes-push_other}
use Rattle.sc_journal.proofs.OwedLemmas.{owed-push_led}
use Rattle.sc_journal.proofs.SplitLemmas.{LeavesSlices-led, map_after-left, open_split-left}
use Rattle.sc_journal.proofs.VersionLemmas.{newest_from_last}
use Rattle.sc_bucket.specs.Kept.{JournalState, FlightState, Sent}
use Rattle.sc_replicas.specs.Cores.{seated, without_room, IsCoreWithoutRoom}
use Rattle.sc_bucket.specs.Flight.{is_to, is_same_message}
use Rattle.sc_bucket.specs.Sound.{HasJournal, HasLastWrites, IsSent, AreSent, IsInPhase, IsSound}
use Rattle.sc_bucket.specs.declared.bucket.Bucket.{Bucket}
use Rattle.sc_bucket.proofs.AcceptLemmas.{bucket_has_map}
use Rattle.sc_replicas.proofs.CoreLemmas.{name_of, same_name_by}
use Rattle.sc_bucket.proofs.FollowerLemmas.{IsDistinct-filter, All-from_contains}
use Rattle.sc_bucket.proofs.LeftOutLemmas.{left_out, apart_too}
use Rattle.sc_bucket.proofs.PlaceLemmas.{slice_get-set}
use Rattle.sc_bucket.proofs.SearcherLemmas.{HasSearchers-grown}
use Rattle.sc_bucket.proofs.SoundLemmas.{AreAlike, AreMarked, names-alike, HasCores-alike, AreFeeds-alike, IsInPhase-alike}
use Rattle.sc_bucket.proofs.TakenLemmas.{Contains-slice_get}
use Rattle.sc_bucket.proofs.WriteLemmas.{cell_below_clock}
use Rattle.sc_handover.specs.Conditions.{CanLead}
use Rattle.sc_handover.specs.Seats.{IsCoreAt, HasLead, IsLedWhole}
use Rattle.sc_handover.proofs.EachCoreLemmas.{IsSoundWith, each_with, IsSound-each}
use Rattle.sc_handover.proofs.LastWriteLemmas.{same_from_key}
use Rattle.sc_handover.proofs.PlacedLemmas.{slice_get-set_other}
use Rattle.sc_handover.proofs.PushedLemmas.{HasJournal-longer}
use Rattle.sc_handover.proofs.SentLemmas.{IsSent-push}
use Rattle.sc_handover.specs.Parts.{ChangesSeats}
use Rattle.sc_handover.proofs.SeatedLemmas.{MayChangeSeats, longer, lead, follow, in_new_seats, in_order_seated, AreOfSlice, of_slice, places_differ, all_seated, lead_is_sound, follow_is_sound, other_is_sound, alike_seated, marked_seated}

-- the bucket with this journal, these messages in flight and these cores, which owes one entry less
abbrev pub with_seats : Bucket → JournalState → FlightState → List Core → Bucket
with_seats b journal flight cores = record b { journal = journal; flight = flight; replicas = cores; owed = b.owed - 1 }

-- ---- the journal and the messages
pub may_lead : (b : Bucket) (name : CoreId) → IsSound b → CanLead b name → MayLead b.first b.journal.entries name
may_lead b name sound can = record {
  idle = (subst (IsInPhase b) can.idle sound.phase).idle;
  follower = subst (λ slices. IsFollower slices name) sound.journal.map_is can.follower;
  up = can.up;
}

-- one entry less is owed
owed_led : (b : Bucket) (name : CoreId) → IsSound b → CanLead b name → owed b.first (longer b name) + 1 ≡ owed b.first b.journal.entries
owed_led b name sound can =
    owed-push_led b.first b.journal.entries name (subst IsMap sound.journal.map_is (bucket_has_map b sound.journal))
    (may_lead b name sound can)

-- so one is owed, and has its room
pub owes_led : (b : Bucket) (name : CoreId) → IsSound b → CanLead b name → (1 ≤ b.owed) × (1 ≤ b.journal.room)
owes_led b name sound can =
    let less = owed_led b name sound can in
    let journal = sound.journal in
    (omega (arith, less, journal.owed_is), omega (arith, less, journal.owed_is, journal.room))

-- its journal is as it has to be
HasJournal-led : (b : Bucket) (name : CoreId) (journal : JournalState) (flight : FlightState) (cores : List Core) → IsSound b
    → CanLead b name → journal ≡ record b.journal { entries = longer b name; room = b.journal.room - 1 }
    → HasJournal (with_seats b journal flight cores)
HasJournal-led b name journal flight cores sound can journal_is =
    let owes = owes_led b name sound can in
    let less = owed_led b name sound can in
    let has = sound.journal in
    let left : journal.room ≡ b.journal.room - 1 = ap (λ (j : JournalState). j.room) journal_is in
    HasJournal-longer b (with_seats b journal flight cores) (entry.Led name) has (may_lead b name sound can) refl (λ place. refl)
    (record {
      name = record { first = refl; limit = refl; filed = ap (λ (j : JournalState). j.filed) journal_is };
      entries = ap (λ (j : JournalState). j.entries) journal_is;
      map_is = has.map_is ∙ sym (map_after-left b.first b.journal.entries (entry.Led name) (LeavesSlices-led name));
      unsettled_are = refl;
      owed_is = omega (arith, less, has.owed_is);
      room = omega (arith, owes.0, owes.1, left, has.room);
      within = omega (arith, owes.0, has.within);
    })

-- each message left is to a core that is there and not down
AreSent-led : (b new : Bucket) (name leading : CoreId) → AreSent b
    → All (λ (message : Sent). is_to name message ≡ false) b.flight.messages
    → new.journal.entries ≡ longer b name → new.flight.messages ≡ left_out leading b.flight.messages
    → map name_of new.replicas ≡ map name_of b.replicas → AreSent new
AreSent-led b new name leading sent delivered entries messages names = record {
  each = subst (All (IsSent new)) (sym messages) (All-from_contains (IsSent new) (left_out leading b.flight.messages) each);
  once = subst (IsDistinct is_same_message) (sym messages)
      (IsDistinct-filter is_same_message (λ (message : Sent). not (is_to leading message)) b.flight.messages sent.once);
} where
  each : (message : Sent) → Contains (left_out leading b.flight.messages) message → IsSent new message
  each message there =
      let inside = (Contains-from_filter (λ (one : Sent). not (is_to leading one)) b.flight.messages message there).0 in
      let is = All-contains (IsSent b) b.flight.messages message sent.each inside in
      let apart = All-contains (λ (one : Sent). is_to name one ≡ false) b.flight.messages message delivered inside in
      IsSent-push b new (entry.Led name) message entries (λ _. refl)
      (is_down-push_led_other b.journal.entries name (key_of_core message.core) (apart_too name message.core apart))
      (subst (λ (those : List CoreId). Contains those message.core) (sym names) is.core) is

-- ---- so the bucket is sound
pub IsSound-led : (b : Bucket) (name : CoreId) (leader_at at : ℕ) (leader core : Core) (journal : JournalState) (flight : FlightState)
    (cores : List Core) → MayChangeSeats b name leader_at at leader core
    → journal ≡ record b.journal { entries = longer b name; room = b.journal.room - 1 }
    → flight.messages ≡ left_out leader.core b.flight.messages → cores ≡ in_new_seats b name leader_at at leader core
    → IsSound (with_seats b journal flight cores)
IsSound-led b name leader_at at leader core journal flight cores may journal_is messages cores_are =
    IsSound-each new each
    (subst (All IsCoreWithoutRoom) (sym cores_are)
    (all_seated b name leader_at at leader core IsCoreWithoutRoom may
    (in_order_seated leader.core false core (All-contains IsCoreWithoutRoom b.replicas core may.sound.in_order of.core_there))
    (in_order_seated name true leader (All-contains IsCoreWithoutRoom b.replicas leader may.sound.in_order of.leader_there))
    (λ other is. All-contains IsCoreWithoutRoom b.replicas other may.sound.in_order is.there)))
    has_journal
    (HasSearchers-grown b new refl refl
    (ap last_commit entries ∙ last_commit-push_other b.journal.entries one refl)
    (ap committed entries ∙ committed-push_other b.journal.entries one refl)
    (λ write there. subst (λ (these : List Write). Contains these write) (sym same_writes) there) may.sound.searchers)
    may.sound.prepared
    (AreSent-led b new name leader.core may.sound.messages may.delivered entries messages (names-alike b.replicas cores alike))
    (HasCores-alike b new refl refl alike
    (subst (λ these. AreMarked these cores) (sym entries)
    (subst (AreMarked (longer b name)) (sym cores_are)
    (marked_seated b name leader_at at leader core may (subst (IsLegal b.first) entries has_journal.legal)))) may.sound.cores)
    (AreFeeds-alike b new refl refl refl alike may.sound.feeds)
    (IsInPhase-alike b new b.phase
    (ap open_split entries ∙ open_split-left b.journal.entries one (LeavesSlices-led name)) refl alike may.sound.phase)
  where
    new : Bucket
    new = with_seats b journal flight cores

    one : Entry
    one = entry.Led name

    of : AreOfSlice b name leader core
    of = of_slice b name leader_at at leader core may

    entries : journal.entries ≡ longer b name
    entries = ap (λ (j : JournalState). j.entries) journal_is

    same_writes : writes journal.entries ≡ writes b.journal.entries
    same_writes = ap writes entries ∙ writes-push_other b.journal.entries one refl

    has_journal : HasJournal new
    has_journal = HasJournal-led b name journal flight cores may.sound may.can journal_is

    alike : AreAlike b.replicas cores
    alike = subst (AreAlike b.replicas) (sym cores_are) (alike_seated b name leader_at at leader core may)

    IsNow : Core → Type 0
    IsNow = IsSoundWith b.map (longer b name) (left_out leader.core b.flight.messages) b.feeds

    each : All (IsSoundWith new.map new.journal.entries new.flight.messages new.feeds) new.replicas
    each =
        each_with new b.map (longer b name) (left_out leader.core b.flight.messages) b.feeds
        (in_new_seats b name leader_at at leader core) refl entries messages refl cores_are
        (all_seated b name leader_at at leader core IsNow may (lead_is_sound b name leader_at at leader core may)
        (follow_is_sound b name leader_at at leader core may)
        (λ other is. other_is_sound b name leader other may.sound is))

-- and led by a core that has the last write of each id of the slice's range, and a clock that is above none of them
pub IsLedWhole-led : (b : Bucket) (name : CoreId) (leader_at at : ℕ) (leader core : Core) (journal : JournalState) (flight : FlightState)
    (cores : List Core) → MayChangeSeats b name leader_at at leader core
    → journal ≡ record b.journal { entries = longer b name; room = b.journal.room - 1 }
    → flight.messages ≡ left_out leader.core b.flight.messages → cores ≡ in_new_seats b name leader_at at leader core
    → IsLedWhole (with_seats b journal flight cores) name.slice
IsLedWhole-led b name leader_at at leader core journal flight cores may journal_is messages cores_are slice found in_map named there leads =
    let same_slice : slice ≡ of.slice =
    same_from_id b.map slice of.slice (bucket_has_map b may.sound.journal) in_map of.in_map (named ∙ sym of.named) in
    let same_core : lead leader core ≡ found =
    same_from_key cores (lead leader core) found sound.cores.ascend lead_there there
    (ap key_of_core (same_name_by leader.core found.core
    (ap (λ (id : SliceId). id.0) (may.leader_is.0 ∙ sym leads.0)) (may.leader_is.1 ∙ sym leads.1))) in
    subst (HasLead new slice) same_core (subst (λ s. HasLead new s (lead leader core)) (sym same_slice) has)
  where
    new : Bucket
    new = with_seats b journal flight cores

    of : AreOfSlice b name leader core
    of = of_slice b name leader_at at leader core may

    sound : IsSound new
    sound = IsSound-led b name leader_at at leader core journal flight cores may journal_is messages cores_are

    entries : journal.entries ≡ longer b name
    entries = ap (λ (j : JournalState). j.entries) journal_is

    lead_there : Contains cores (lead leader core)
    lead_there =
        subst (λ (these : List Core). Contains these (lead leader core)) (sym cores_are)
        (Contains-slice_get (in_new_seats b name leader_at at leader core) leader_at (lead leader core)
        (slice_get-set_other (set b.replicas leader_at (lead leader core)) at leader_at (follow name leader)
        (λ same. places_differ b name leader_at at leader core may (sym same))
        ∙ slice_get-set b.replicas leader_at (lead leader core) (slice_get_within b.replicas leader_at leader may.leader_there)))

    last : HasLastWrites journal.entries of.slice core
    last id within =
        of.core_last id within ∙ sym (ap (λ these. last_write these id) entries
        ∙ last_write-push_other b.journal.entries (entry.Led name) id refl)

    has : HasLead new of.slice (lead leader core)
    has = record {
      last = last;
      above = λ id now within.
          newest_from_last b.first journal.entries id (version_after now core.clock) sound.journal.legal (λ write is.
          let most : write.version ≤ℤ core.clock =
          cell_below_clock (without_room core) id write
          (All-contains IsCoreWithoutRoom b.replicas core may.sound.in_order of.core_there) (last id within ∙ is) in
          let next : core.clock <ℤ version_after now core.clock = version_after-above_clock now core.clock in
          omega (arith, ints, most, next));
    }

-- and that is the event
pub ChangesSeats-led : (b : Bucket) (name : CoreId) (leader_at at : ℕ) (leader core : Core) (journal : JournalState) (flight : FlightState)
    (cores : List Core) → MayChangeSeats b name leader_at at leader core
    → journal ≡ record b.journal { entries = longer b name; room = b.journal.room - 1 }
    → flight.messages ≡ left_out leader.core b.flight.messages → cores ≡ in_new_seats b name leader_at at leader core
    → ChangesSeats b name (with_seats b journal flight cores)
ChangesSeats-led b name leader_at at leader core journal flight cores may journal_is messages cores_are = record {
  kept = record { first = refl; limit = refl; filed = ap (λ (j : JournalState). j.filed) journal_is };
  split = record { phase = refl; feeds = refl };
  map_is = refl;
  entries = ap (λ (j : JournalState). j.entries) journal_is;
  leader_at = leader_at;
  leader = leader;
  leader_found = may.leader_there;
  leader_is = may.leader_is;
  at = at;
  core = core;
  core_at = may.core_at;
  cores = cores_are;
  messages = messages;
  searchers_are = refl;
}

-- as the calls leave the messages and the cores
pub left_to_others : (b : Bucket) (leader leading : CoreId) (flight : FlightState) → leader ≡ leading
    → flight ≡ record b.flight { messages = left_out leading b.flight.messages }
    → flight.messages ≡ left_out leader b.flight.messages
left_to_others b leader leading flight named is =
    ap (λ (f : FlightState). f.messages) is ∙ ap (λ (n : CoreId). left_out n b.flight.messages) (sym named)

pub exchanged_seats : (b : Bucket) (name : CoreId) (leader_at at : ℕ) (leader core : Core) (cores : List Core) → IsCoreAt b name at core
    → cores ≡ set (set b.replicas leader_at (seated leader.core false core)) at (seated core.core true leader)
    → cores ≡ in_new_seats b name leader_at at leader core
exchanged_seats b name leader_at at leader core cores is are =
    are ∙ ap (λ (n : CoreId). set (set b.replicas leader_at (seated leader.core false core)) at (seated n true leader)) is.named
