-- A follower to which nothing is in flight and the core that leads in each other's seats: each core of the bucket is sound, and has the
-- mark and the number that the journal gives it.
use Rattle.std.proofs.Common.{◌≡◌, ◌≢◌, ◌⊎◌, ◌∙◌, inl, ℕ, ◌≤◌, pos, Bool, true, false, not, ◌&&◌, eqb, List, [], ◌∷◌, ◌++◌, map, set, slice_get, Option, Some, All, Contains, refl, sym, ap, subst, arith}
use Rattle.std.proofs.lemmas.Bool.{and_parts, eq-eqb, eqb-true, false_from_ne_true}
use Rattle.std.proofs.lemmas.List.Elements.{All-contains, All-nil}
use Rattle.std.proofs.lemmas.Option.{same_Some, slice_get_within}
use Rattle.sc_hash.specs.Range.{IsWithin}
use Rattle.sc_router.specs.Route.{route_hash}
use Rattle.sc_record.specs.Names.{key_of_core, is_core}
use Rattle.sc_record.specs.declared.slice.SliceId.{SliceId}
use Rattle.sc_record.specs.declared.slice.CoreId.{CoreId}
use Rattle.sc_record.specs.Writes.{Write}
use Rattle.sc_record.specs.declared.entry.Entry.{Entry}
use Rattle.sc_record.specs.declared.entry.Entry.TheVariants as entry
use Rattle.sc_cluster.specs.declared.slice.State.TheVariants as states
use Rattle.sc_cluster.specs.declared.slice.Slice.{Slice}
use Rattle.sc_cluster.specs.Slices.{is_inactive_state, is_inactive}
use Rattle.sc_cluster.proofs.LeaderLemmas.{same_from_id}
use Rattle.sc_ulog.specs.declared.mode.Mode.TheVariants.{Active}
use Rattle.sc_replica.specs.Core.{Core}
use Rattle.sc_journal.specs.Journal.{writes}
use Rattle.sc_journal.specs.Down.{is_down}
use Rattle.sc_journal.specs.Seats.{exchanged, seats}
use Rattle.sc_journal.specs.Legal.{IsLegal}
use Rattle.sc_journal.proofs.DownLemmas.{is_down-push_led, is_down-push_led_other}
use Rattle.sc_journal.proofs.FollowerLemmas.{follower_is}
use Rattle.sc_journal.proofs.JournalLemmas.{writes-push_other}
use Rattle.sc_journal.proofs.LegalDownLemmas.{leader_is_up}
use Rattle.sc_journal.proofs.SeatLemmas.{seats-push_led}
use Rattle.sc_bucket.specs.Kept.{Sent}
use Rattle.sc_replicas.specs.Cores.{core_key, seated, IsLeaderOf, IsCoreWithoutRoom}
use Rattle.sc_bucket.specs.Flight.{in_flight, is_to}
use Rattle.sc_bucket.specs.Pending.{to_feed, pending}
use Rattle.sc_bucket.specs.Sound.{HasLastWrites, Serves, IsInRange, IsMarked, IsSound}
use Rattle.sc_bucket.specs.declared.bucket.Bucket.{Bucket}
use Rattle.sc_bucket.proofs.AcceptLemmas.{bucket_has_map}
use Rattle.sc_replicas.proofs.CoreLemmas.{is_core-Decides, IsCoreFound}
use Rattle.sc_bucket.proofs.DeliverLemmas.{place_of_core}
use Rattle.sc_bucket.proofs.DeliveredLemmas.{IsSoundCore}
use Rattle.sc_bucket.proofs.FeedLemmas.{to_feed-none}
use Rattle.sc_bucket.proofs.LeftOutLemmas.{left_out, apart_too, left_out-own, left_out-other}
use Rattle.sc_bucket.proofs.SoundLemmas.{AreAlike, AreAlike-set, AreMarked}
use Rattle.sc_bucket.proofs.TakenLemmas.{Contains-slice_get}
use Rattle.sc_handover.specs.Conditions.{CanLead}
use Rattle.sc_handover.specs.Made.{leader_of}
use Rattle.sc_handover.specs.Seats.{IsCoreAt}
use Rattle.sc_handover.proofs.ChangedLemmas.{apart_from}
use Rattle.sc_handover.proofs.EachCoreLemmas.{IsSoundWith, core_in}
use Rattle.sc_handover.proofs.KeptLemmas.{same_number}
use Rattle.sc_handover.proofs.LastWriteLemmas.{pending-none, unfed_where_active, last_where_settled, same_from_key}
use Rattle.sc_handover.proofs.PlacedLemmas.{slice_get-set_other, All-set_two, apart_names, seat_of_led, seat_of_other}
use Rattle.sc_handover.proofs.SameWritesLemmas.{last_write-same, same_writes_is_sound}
use Rattle.sc_handover.proofs.SettleSubsLemmas.{in_flight-no_message}

-- the follower of this name and the leader of its slice are at these places, the follower may lead, and nothing is in flight to it
pub record MayChangeSeats (b : Bucket) (name : CoreId) (leader_at at : ℕ) (leader core : Core) : Type 0 where
  pub sound : IsSound b
  pub can : CanLead b name
  pub delivered : All (λ (message : Sent). is_to name message ≡ false) b.flight.messages
  pub leader_there : slice_get b.replicas leader_at ≡ Some leader
  pub leader_is : IsLeaderOf name.slice leader
  pub core_at : IsCoreAt b name at core

-- the journal with the entry that says so
abbrev pub longer : Bucket → CoreId → List Entry
longer b name = b.journal.entries ++ entry.Led name ∷ []

-- the cores in their new seats
abbrev pub lead : Core → Core → Core
lead leader core = seated leader.core false core

abbrev pub follow : CoreId → Core → Core
follow name leader = seated name true leader

abbrev pub in_new_seats : Bucket → CoreId → ℕ → ℕ → Core → Core → List Core
in_new_seats b name leader_at at leader core = set (set b.replicas leader_at (lead leader core)) at (follow name leader)

-- a core in another seat is in order as it was
pub in_order_seated : (seat : CoreId) (down : Bool) (core : Core) → IsCoreWithoutRoom core → IsCoreWithoutRoom (seated seat down core)
in_order_seated seat down core is = record {
  ascends = is.ascends;
  from_zero = is.from_zero;
  clocked = is.clocked;
  active = is.active;
  cell_room = is.cell_room;
  buffer_room = is.buffer_room;
}

-- an active core buffers nothing
pub quiet_where_active : (b : Bucket) (core : Core) → IsSound b → Contains b.replicas core → core.mode ≡ Active → core.buffer ≡ []
quiet_where_active b core sound there active = (All-contains IsCoreWithoutRoom b.replicas core sound.in_order there).active active

-- both are there where they are found
pub may_change_seats : (b : Bucket) (name leading : CoreId) (first second : Option ℕ) (leader_at at : ℕ) → IsSound b → CanLead b name
    → All (λ (message : Sent). is_to name message ≡ false) b.flight.messages → leading ≡ leader_of name.slice
    → IsCoreFound b.replicas leading first → first ≡ Some leader_at → IsCoreFound b.replicas name second → second ≡ Some at
    → (leader : Core) × (core : Core) × MayChangeSeats b name leader_at at leader core × (leader.core ≡ leading)
may_change_seats b name leading first second leader_at at sound can delivered leads is_first first_is is_second second_is =
    let (leader, leader_there, leader_own) = place_of_core b.replicas leading first leader_at is_first first_is in
    let (core, there, own) = place_of_core b.replicas name second at is_second second_is in
    let named : leader.core ≡ leading = sym ((is_core-Decides leading leader.core).0 leader_own) in (
      leader,
      core,
      record {
        sound = sound;
        can = can;
        delivered = delivered;
        leader_there = leader_there;
        leader_is = (ap (λ (n : CoreId). n.slice) (named ∙ leads), ap (λ (n : CoreId). n.replica) (named ∙ leads));
        core_at = record { found = there; named = sym ((is_core-Decides name core.core).0 own) };
      },
      named,
    )

-- what is known of the slice, and of the two cores
pub record AreOfSlice (b : Bucket) (name : CoreId) (leader core : Core) : Type 0 where
  pub slice : Slice
  pub in_map : Contains b.map slice
  pub active : slice.state ≡ states.Active
  pub named : slice.id ≡ name.slice
  pub above : 2 ≤ name.replica
  pub leader_there : Contains b.replicas leader
  pub leader_active : leader.mode ≡ Active
  pub core_there : Contains b.replicas core
  pub core_active : core.mode ≡ Active
  pub core_last : HasLastWrites b.journal.entries slice core

pub of_slice : (b : Bucket) (name : CoreId) (leader_at at : ℕ) (leader core : Core) → MayChangeSeats b name leader_at at leader core
    → AreOfSlice b name leader core
of_slice b name leader_at at leader core may =
    let (slice, in_map, active, follower) = may.can.follower in
    let number = follower_is slice (key_of_core name) follower in
    let named : slice.id ≡ name.slice = same_number slice.id name.slice (sym number.0) in
    let serves : Serves b.journal.entries slice leader =
    All-contains (λ (c : Core). (s : Slice) → Contains b.map s → s.id ≡ c.core.slice → Serves b.journal.entries s c)
    b.replicas leader may.sound.leaders leader_there slice in_map (named ∙ sym may.leader_is.0) in
    record {
      slice = slice;
      in_map = in_map;
      active = active;
      named = named;
      above = number.1;
      leader_there = leader_there;
      leader_active = (serves active may.leader_is.1).0;
      core_there = core_there;
      core_active = core_active;
      core_last = last_where_settled b slice core may.sound in_map (named ∙ ap (λ (n : CoreId). n.slice) (sym may.core_at.named))
          (ap (λ s. not (is_inactive_state s) && not core.down) active ∙ ap not up) core_there core_active
          (quiet_where_active b core may.sound core_there core_active)
          (in_flight-no_message b.flight.messages core.core
          (subst (λ (n : CoreId). All (λ (message : Sent). is_to n message ≡ false) b.flight.messages) (sym may.core_at.named)
          may.delivered));
    }
  where
    leader_there : Contains b.replicas leader
    leader_there = Contains-slice_get b.replicas leader_at leader may.leader_there

    core_there : Contains b.replicas core
    core_there = Contains-slice_get b.replicas at core may.core_at.found

    core_active : core.mode ≡ Active
    core_active =
        let (other, there, named, active) = may.can.active in
        ap (λ (c : Core). c.mode)
        (sym (same_from_key b.replicas other core may.sound.cores.ascend there core_there
        (ap key_of_core (named ∙ sym may.core_at.named)))) ∙ active

    up : core.down ≡ false
    up =
        (All-contains (IsMarked b.journal.entries) b.replicas core may.sound.cores.marked core_there).down
        ∙ ap (λ (n : CoreId). is_down b.journal.entries (key_of_core n)) may.core_at.named ∙ may.can.up

-- they are at two places
pub places_differ : (b : Bucket) (name : CoreId) (leader_at at : ℕ) (leader core : Core)
    → MayChangeSeats b name leader_at at leader core → leader_at ≢ at
places_differ b name leader_at at leader core may same =
    let of = of_slice b name leader_at at leader core may in
    let one : leader ≡ core =
    same_Some leader core (sym may.leader_there ∙ ap (slice_get b.replicas) same ∙ may.core_at.found) in
    let first : name.replica ≡ 1 =
    ap (λ (n : CoreId). n.replica) (sym may.core_at.named) ∙ ap (λ (c : Core). c.core.replica) (sym one) ∙ may.leader_is.1 in
    absurd (omega (arith, of.above, first))

-- a core at another place has neither name
pub record IsAnother (b : Bucket) (name : CoreId) (leader other : Core) : Type 0 where
  pub there : Contains b.replicas other
  pub from_leader : is_core other.core leader.core ≡ false
  pub from_core : is_core other.core name ≡ false

-- what is true of the two cores in their new seats, and of each other, is true of each
pub all_seated : (b : Bucket) (name : CoreId) (leader_at at : ℕ) (leader core : Core) (P : Core → Type 0)
    → MayChangeSeats b name leader_at at leader core → P (lead leader core) → P (follow name leader)
    → ((other : Core) → IsAnother b name leader other → P other)
    → All P (in_new_seats b name leader_at at leader core)
all_seated b name leader_at at leader core P may leads follows others =
    All-set_two P b.replicas leader_at at (lead leader core) (follow name leader)
    (slice_get_within b.replicas leader_at leader may.leader_there) leads follows
    (λ k other not_leader not_core is. others other (record {
      there = Contains-slice_get b.replicas k other is;
      from_leader = apart_from b leader_at k leader other may.sound may.leader_there is not_leader;
      from_core = ap (is_core other.core) (sym may.core_at.named) ∙ apart_from b at k core other may.sound may.core_at.found is not_core;
    }))

-- ---- the cores
-- nothing is pending for a core with an empty buffer to which nothing is in flight, and that is not fed
unfed_leader : (b : Bucket) (name : CoreId) (leader_at at : ℕ) (leader core : Core) → MayChangeSeats b name leader_at at leader core
    → to_feed b.feeds leader.core ≡ []
unfed_leader b name leader_at at leader core may =
    let of = of_slice b name leader_at at leader core may in
    unfed_where_active b leader may.sound of.leader_there of.leader_active

-- the core that leads then is sound: it has the last writes, and nothing is pending for it
pub lead_is_sound : (b : Bucket) (name : CoreId) (leader_at at : ℕ) (leader core : Core) → MayChangeSeats b name leader_at at leader core
    → IsSoundWith b.map (longer b name) (left_out leader.core b.flight.messages) b.feeds (lead leader core)
lead_is_sound b name leader_at at leader core may =
    subst (λ sent. IsSoundCore b.map (longer b name) sent (pending left b.feeds (lead leader core)) (lead leader core)) (sym unsent)
    (subst (λ waits. IsSoundCore b.map (longer b name) [] waits (lead leader core)) (sym nothing) (record {
      serves = λ one there named active first. (of.core_active, last one there named);
      written = (
        subst (λ (all : List Write). All (Contains all) core.cells) (sym same_writes) before.written.0,
        All-nil (Contains (writes (longer b name))),
      );
      held = λ one there named attached id write within is. inl (last one there named id within ∙ is);
      in_range = λ one there named. ((before.in_range one there (named ∙ same_slice)).0, All-nil (IsInRange one));
      clock = subst (λ (all : List Write). (core.clock ≡ pos 0) ⊎ Contains (map (λ (w : Write). w.version) all) core.clock)
          (sym same_writes) before.clock;
      cell_room = omega arith;
      buffer_room = omega arith;
    }))
  where
    of : AreOfSlice b name leader core
    of = of_slice b name leader_at at leader core may

    left : List Sent
    left = left_out leader.core b.flight.messages

    before : IsSoundWith b.map b.journal.entries b.flight.messages b.feeds core
    before = core_in b core may.sound of.core_there

    same_writes : writes (longer b name) ≡ writes b.journal.entries
    same_writes = writes-push_other b.journal.entries (entry.Led name) refl

    same_slice : leader.core.slice ≡ core.core.slice
    same_slice = may.leader_is.0 ∙ ap (λ (n : CoreId). n.slice) (sym may.core_at.named)

    unsent : in_flight left leader.core ≡ []
    unsent = left_out-own leader.core b.flight.messages

    nothing : pending left b.feeds (lead leader core) ≡ []
    nothing =
        pending-none left b.feeds (lead leader core) unsent (quiet_where_active b core may.sound of.core_there of.core_active)
        (unfed_leader b name leader_at at leader core may)

    last : (one : Slice) → Contains b.map one → one.id ≡ leader.core.slice → HasLastWrites (longer b name) one core
    last one there named id within =
        let same : one ≡ of.slice = same_from_id b.map one of.slice (bucket_has_map b may.sound.journal) there of.in_map
        (named ∙ may.leader_is.0 ∙ sym of.named) in
        of.core_last id (subst (λ (s : Slice). IsWithin s.range.min s.range.max (route_hash id)) same within)
        ∙ sym (last_write-same b.journal.entries (longer b name) id same_writes)

-- and so is the one that led: it is down, and nothing is pending for it
pub follow_is_sound : (b : Bucket) (name : CoreId) (leader_at at : ℕ) (leader core : Core) → MayChangeSeats b name leader_at at leader core
    → IsSoundWith b.map (longer b name) (left_out leader.core b.flight.messages) b.feeds (follow name leader)
follow_is_sound b name leader_at at leader core may =
    subst (λ sent. IsSoundCore b.map (longer b name) sent (pending left b.feeds (follow name leader)) (follow name leader)) (sym unsent)
    (subst (λ waits. IsSoundCore b.map (longer b name) [] waits (follow name leader)) (sym nothing) (record {
      serves = λ one there named active first. absurd (omega (arith, of.above, first));
      written = (
        subst (λ (all : List Write). All (Contains all) leader.cells) (sym same_writes) before.written.0,
        All-nil (Contains (writes (longer b name))),
      );
      held = λ one there named attached id write within is.
          let (stays, up) = and_parts (not (is_inactive one)) false attached in
          absurd (cc);
      in_range = λ one there named. ((before.in_range one there (named ∙ sym may.leader_is.0)).0, All-nil (IsInRange one));
      clock = subst (λ (all : List Write). (leader.clock ≡ pos 0) ⊎ Contains (map (λ (w : Write). w.version) all) leader.clock)
          (sym same_writes) before.clock;
      cell_room = omega arith;
      buffer_room = omega arith;
    }))
  where
    of : AreOfSlice b name leader core
    of = of_slice b name leader_at at leader core may

    left : List Sent
    left = left_out leader.core b.flight.messages

    before : IsSoundWith b.map b.journal.entries b.flight.messages b.feeds leader
    before = core_in b leader may.sound of.leader_there

    same_writes : writes (longer b name) ≡ writes b.journal.entries
    same_writes = writes-push_other b.journal.entries (entry.Led name) refl

    apart : is_core leader.core name ≡ false
    apart = false_from_ne_true (is_core leader.core name) (λ same.
        let one : leader.core ≡ name = (is_core-Decides leader.core name).0 same in
        let first : name.replica ≡ 1 = ap (λ (n : CoreId). n.replica) (sym one) ∙ may.leader_is.1 in
        absurd (omega (arith, of.above, first)))

    unsent : in_flight left name ≡ []
    unsent = left_out-other leader.core b.flight.messages name apart ∙ in_flight-no_message b.flight.messages name may.delivered

    nothing : pending left b.feeds (follow name leader) ≡ []
    nothing =
        pending-none left b.feeds (follow name leader) unsent (quiet_where_active b leader may.sound of.leader_there of.leader_active)
        (to_feed-none b.feeds name may.can.unfed)

-- each other is as before
pub other_is_sound : (b : Bucket) (name : CoreId) (leader other : Core) → IsSound b → IsAnother b name leader other
    → IsSoundWith b.map (longer b name) (left_out leader.core b.flight.messages) b.feeds other
other_is_sound b name leader other sound is =
    let same : in_flight (left_out leader.core b.flight.messages) other.core ≡ in_flight b.flight.messages other.core =
    left_out-other leader.core b.flight.messages other.core (apart_too other.core leader.core is.from_leader) in
    subst (λ sent. IsSoundCore b.map (longer b name) sent (sent ++ other.buffer ++ to_feed b.feeds other.core) other) (sym same)
    (same_writes_is_sound b.map b.map b.journal.entries (longer b name) (in_flight b.flight.messages other.core)
    (pending b.flight.messages b.feeds other) other (writes-push_other b.journal.entries (entry.Led name) refl)
    (λ one there named. there) (core_in b other sound is.there))

-- the names and the modes stay at their places
pub alike_seated : (b : Bucket) (name : CoreId) (leader_at at : ℕ) (leader core : Core) → MayChangeSeats b name leader_at at leader core
    → AreAlike b.replicas (in_new_seats b name leader_at at leader core)
alike_seated b name leader_at at leader core may =
    let of = of_slice b name leader_at at leader core may in
    let modes : core.mode ≡ leader.mode = of.core_active ∙ sym of.leader_active in
    let still : slice_get (set b.replicas leader_at (lead leader core)) at ≡ Some core =
    slice_get-set_other b.replicas leader_at at (lead leader core) (places_differ b name leader_at at leader core may)
    ∙ may.core_at.found in
    AreAlike-set (set b.replicas leader_at (lead leader core)) at core (follow name leader) still
    (ap (λ (n : CoreId). (n, leader.mode)) (sym may.core_at.named) ∙ ap (λ m. (core.core, m)) (sym modes))
    ∙ AreAlike-set b.replicas leader_at leader (lead leader core) may.leader_there (ap (λ m. (leader.core, m)) modes)

-- and each has the mark and the number that the journal gives it
pub marked_seated : (b : Bucket) (name : CoreId) (leader_at at : ℕ) (leader core : Core) → MayChangeSeats b name leader_at at leader core
    → IsLegal b.first (longer b name) → AreMarked (longer b name) (in_new_seats b name leader_at at leader core)
marked_seated b name leader_at at leader core may legal =
    all_seated b name leader_at at leader core (IsMarked (longer b name)) may
    (record {
      down = sym (ap (λ (n : ℕ). is_down (longer b name) (leader.core.slice.0, n)) may.leader_is.1
          ∙ leader_is_up b.first (longer b name) leader.core.slice.0 legal);
      number = (marked core of.core_there).number
          ∙ ap (λ (n : CoreId). seats b.journal.entries n.slice n.replica) may.core_at.named
          ∙ sym (ap (λ (n : ℕ). seats (longer b name) leader.core.slice n) may.leader_is.1
          ∙ ap (λ (id : SliceId). seats (longer b name) id 1) may.leader_is.0
          ∙ ap (λ core_in. core_in 1) own_seats);
    })
    (record {
      down = sym (is_down-push_led b.journal.entries name);
      number = (marked leader of.leader_there).number
          ∙ ap (λ (n : ℕ). seats b.journal.entries leader.core.slice n) may.leader_is.1
          ∙ ap (λ (id : SliceId). seats b.journal.entries id 1) may.leader_is.0
          ∙ sym (ap (λ core_in. core_in name.replica) own_seats ∙ own_seat);
    })
    (λ other is. record {
      down = (marked other is.there).down ∙ sym (is_down-push_led_other b.journal.entries name (core_key other) is.from_core);
      number = (marked other is.there).number ∙ sym (other_seat other is (eqb name.slice.0 other.core.slice.0) refl);
    })
  where
    of : AreOfSlice b name leader core
    of = of_slice b name leader_at at leader core may

    marked : (c : Core) → Contains b.replicas c → IsMarked b.journal.entries c
    marked c there = All-contains (IsMarked b.journal.entries) b.replicas c may.sound.cores.marked there

    own_seats : seats (longer b name) name.slice ≡ exchanged name.replica (seats b.journal.entries name.slice)
    own_seats = seats-push_led b.journal.entries name name.slice true (eq-eqb name.slice.0 name.slice.0 refl)

    own_seat : exchanged name.replica (seats b.journal.entries name.slice) name.replica ≡ seats b.journal.entries name.slice 1
    own_seat = seat_of_led name.replica (seats b.journal.entries name.slice) of.above

    other_seat : (other : Core) → IsAnother b name leader other → (t : Bool) → eqb name.slice.0 other.core.slice.0 ≡ t
        → seats (longer b name) other.core.slice other.core.replica ≡ seats b.journal.entries other.core.slice other.core.replica
    other_seat other is false apart =
        ap (λ core_in. core_in other.core.replica) (seats-push_led b.journal.entries name other.core.slice false apart)
    other_seat other is true same =
        let slice : name.slice.0 ≡ other.core.slice.0 = eqb-true name.slice.0 other.core.slice.0 same in
        let not_first : other.core.replica ≢ 1 = λ first.
        apart_names other.core leader.core is.from_leader
        (sym slice ∙ ap (λ (id : SliceId). id.0) (sym may.leader_is.0)) (first ∙ sym may.leader_is.1) in
        let not_own : other.core.replica ≢ name.replica = apart_names other.core name is.from_core (sym slice) in
        ap (λ core_in. core_in other.core.replica) (seats-push_led b.journal.entries name other.core.slice true same)
        ∙ seat_of_other name.replica (seats b.journal.entries other.core.slice) other.core.replica not_first not_own
