-- Each core of a bucket is sound once a split has begun: those that were there, and the leaders of the subs.
use Rattle.std.proofs.Common.{◌≡◌, ◌≢◌, ◌≤◌, ◌<◌, ◌∙◌, ℕ, true, false, None, Some, inl, inr, List, [], ◌∷◌, ◌++◌, map, All, Contains, sym, ap, subst, arith}
use Rattle.std.proofs.lemmas.Bool.{false_from_ne_true}
use Rattle.std.specs.List.{range_with_len}
use Rattle.std.proofs.lemmas.List.Elements.{All-nil, All-map, All-weaker, All-contains, All-contains_itself, All-filter, filter_passes}
use Rattle.sc_hash.specs.Range.{IsWithin}
use Rattle.sc_hash.proofs.BoundsLemmas.{contains-Decides}
use Rattle.sc_router.specs.Route.{route_hash}
use Rattle.sc_record.specs.Writes.{is_of, write_of, Write}
use Rattle.sc_record.specs.declared.slice.SliceId.{SliceId}
use Rattle.sc_record.specs.declared.slice.SubSlice.{SubSlice}
use Rattle.sc_record.specs.declared.slice.CoreId.{CoreId}
use Rattle.sc_record.specs.declared.entry.Entry.{Entry}
use Rattle.sc_cluster.specs.declared.slice.State.TheVariants as states
use Rattle.sc_cluster.specs.declared.slice.Slice.{Slice}
use Rattle.sc_cluster.specs.Slices.{greatest_id}
use Rattle.sc_cluster.specs.Map.{IsMap}
use Rattle.sc_cluster.specs.Plans.{IsPlan}
use Rattle.sc_cluster.specs.Changes.{begun_slice}
use Rattle.sc_cluster.proofs.ListLemmas.{Contains-map, Contains-filter}
use Rattle.sc_cluster.proofs.PairLemmas.{Contains-from_map}
use Rattle.sc_replica.specs.Core.{Core}
use Rattle.sc_journal.specs.Journal.{as_write, writes, last_write}
use Rattle.sc_journal.proofs.JournalLemmas.{writes-push_other, last_write_is}
use Rattle.sc_journal.proofs.LegalLemmas.{legal_hash}
use Rattle.sc_bucket.specs.Kept.{Sent, FeedState}
use Rattle.sc_record.specs.Names.{is_core}
use Rattle.sc_replicas.specs.Cores.{core_key, core_keys, IsLeaderOf}
use Rattle.sc_bucket.specs.Flight.{in_flight}
use Rattle.sc_bucket.specs.Pending.{is_feed_of, left_of, to_feed, pending}
use Rattle.sc_bucket.specs.Sound.{AreWritten, IsInRange, IsSent, HasCores, Serves, IsSound}
use Rattle.sc_bucket.specs.declared.bucket.Bucket.{Bucket}
use Rattle.sc_replicas.proofs.CoreLemmas.{name_of, is_core-Decides}
use Rattle.sc_bucket.proofs.DeliverLemmas.{IsSoundIn}
use Rattle.sc_bucket.proofs.DeliveredLemmas.{IsSoundCore}
use Rattle.sc_bucket.proofs.FeedLemmas.{to_feed-none}
use Rattle.sc_bucket.proofs.PendingLemmas.{goes_to, in_flight-none}
use Rattle.sc_bucket.proofs.WriteLemmas.{Contains-find}
use Rattle.sc_cluster.proofs.IdLemmas.{id_of, greatest_id-bounds}
use Rattle.sc_handover.proofs.KeptLemmas.{slice_of_key}
use Rattle.sc_handover.proofs.EachCoreLemmas.{IsSoundWith}
use Rattle.sc_handover.specs.Made.{first_core, first_feed, sub_range, cells_now}
use Rattle.sc_handover.proofs.PlanLemmas.{sub_above, was_there, is_begun, sub_within}
use Rattle.sc_handover.proofs.SameWritesLemmas.{last_write-same, same_writes_is_sound}
use Rattle.sc_handover.proofs.MadeLemmas.{IsMade}
use Rattle.sc_snapshot.specs.Rows.{SnapshotState, is_within}

-- cores of two slices have two names
of_other_slice : (one other : CoreId) → one.slice.0 ≢ other.slice.0 → is_core one other ≡ false
of_other_slice one other apart =
    false_from_ne_true (is_core one other)
    (λ is. apart (ap (λ (name : CoreId). name.slice.0) ((is_core-Decides one other).0 is)))

-- the slice of a name has no id above the greatest
key_below : (slices : List Slice) (key : ℕ × ℕ) → Contains (core_keys slices) key → key.0 ≤ greatest_id slices
key_below slices key there =
    let (slice, inside, own) = slice_of_key slices key there in
    let named = Contains-from_map (λ (replica : ℕ). (slice.id.0, replica)) (range_with_len 1 slice.replicas) key own in
    let same : slice.id.0 ≡ key.0 = ap (λ (k : ℕ × ℕ). k.0) named.2 in
    let low = All-contains (λ (one : Slice). id_of one ≤ greatest_id slices) slices slice (greatest_id-bounds slices) inside in
    omega (arith, same, low)

-- nor has that of a core
pub core_below : (b : Bucket) (core : Core) → HasCores b → Contains b.replicas core
    → core.core.slice.0 ≤ greatest_id b.map
core_below b core has there =
    key_below b.map (core_key core)
    (All-contains (Contains (core_keys b.map)) (map core_key b.replicas) (core_key core) has.of_map
    (Contains-map core_key b.replicas core there))

-- the map once the subs joined it
abbrev pub begun_map : Bucket → List SubSlice → List Slice
begun_map old subs = old.map ++ map begun_slice subs

-- the journal with one entry more
abbrev pub longer : Bucket → Entry → List Entry
longer old one = old.journal.entries ++ one ∷ []

-- a core that was there is sound: nothing more is pending for it
pub old_is_sound : (old : Bucket) (parent : SliceId) (subs : List SubSlice) (snapshot : SnapshotState) (one : Entry)
    (core : Core)
    → IsPlan old.map parent subs → old.feeds ≡ [] → as_write one ≡ None → core.core.slice.0 ≤ greatest_id old.map
    → IsSoundIn old old.flight.messages core
    → IsSoundWith (begun_map old subs) (longer old one) old.flight.messages (map (first_feed snapshot) subs) core
old_is_sound old parent subs snapshot one core plan unfed no_write low sound =
    subst (λ (left : List Write). IsSoundCore (begun_map old subs) (longer old one) sent (sent ++ core.buffer ++ left) core) (sym none)
    (same_writes_is_sound old.map (begun_map old subs) old.journal.entries (longer old one) sent
    (pending old.flight.messages old.feeds core) core (writes-push_other old.journal.entries one no_write)
    (λ slice there named. was_there old.map parent subs slice plan
    (subst (λ (id : SliceId). id.0 ≤ greatest_id old.map) (sym named) low) there) sound)
  where
    sent : List Write
    sent = in_flight old.flight.messages core.core

    apart : (sub : SubSlice) → Contains subs sub → is_feed_of core.core (first_feed snapshot sub) ≡ false
    apart sub there =
        let above = sub_above old.map parent subs sub plan there in
        of_other_slice core.core (first_core sub) (omega (arith, above, low))

    none : to_feed (map (first_feed snapshot) subs) core.core ≡ to_feed old.feeds core.core
    none =
        to_feed-none (map (first_feed snapshot) subs) core.core
        (All-map (λ (feed : FeedState). is_feed_of core.core feed ≡ false) (first_feed snapshot) subs
        (All-weaker (Contains subs) (λ (sub : SubSlice). is_feed_of core.core (first_feed snapshot sub) ≡ false) apart subs
        (All-contains_itself subs)))
        ∙ sym (ap (λ (feeds : List FeedState). to_feed feeds core.core) unfed)

-- nothing is in flight to a core of a slice that wasn't there
none_to_new : (old : Bucket) (name : CoreId) → IsSound old → greatest_id old.map < name.slice.0
    → in_flight old.flight.messages name ≡ []
none_to_new old name sound above =
    in_flight-none old.flight.messages name
    (All-map (λ (other : CoreId). is_core name other ≡ false) goes_to old.flight.messages
    (All-weaker (IsSent old) (λ (message : Sent). is_core name message.core ≡ false) apart old.flight.messages
    sound.messages.each))
  where
    apart : (message : Sent) → IsSent old message → is_core name message.core ≡ false
    apart message sent =
        let (core, there, same) = Contains-from_map name_of old.replicas message.core sent.core in
        let low : core.core.slice.0 ≤ greatest_id old.map = core_below old core sound.cores there in
        let named : core.core.slice.0 ≡ message.core.slice.0 = ap (λ (n : CoreId). n.slice.0) same in
        of_other_slice name message.core (omega (arith, above, low, named))

-- the leader of a sub is sound as it is made: what it has to hold it is still to be fed
pub made_is_sound : (old : Bucket) (parent : SliceId) (subs : List SubSlice) (leader : Core) (one : Entry) (core : Core)
    → IsSound old → IsPlan old.map parent subs → IsMap (begun_map old subs) → as_write one ≡ None
    → Contains old.replicas leader → IsLeaderOf parent leader → IsMade (cells_now old leader) subs core
    → IsSoundWith (begun_map old subs) (longer old one) old.flight.messages (map (first_feed (cells_now old leader)) subs) core
made_is_sound old parent subs leader one core sound plan is_map no_write leader_there leads made =
    subst (λ (sent : List Write). IsSoundCore (begun_map old subs) (longer old one) sent (pending old.flight.messages feeds core) core)
    (sym unsent)
    (subst (λ (these : List Write). IsSoundCore (begun_map old subs) (longer old one) [] these core) (sym pending_is) fresh)
  where
    feeds : List FeedState
    feeds = map (first_feed (cells_now old leader)) subs

    left : List Write
    left = left_of (first_feed (cells_now old leader) made.sub)

    named : core.core ≡ first_core made.sub
    named = ap (λ (c : Core). c.core) made.core_is

    above : greatest_id old.map < core.core.slice.0
    above =
        subst (λ (name : CoreId). greatest_id old.map < name.slice.0) (sym named)
        (sub_above old.map parent subs made.sub plan made.there)

    unsent : in_flight old.flight.messages core.core ≡ []
    unsent = none_to_new old core.core sound above

    buffer_is : core.buffer ≡ []
    buffer_is = ap (λ (c : Core). c.buffer) made.core_is

    cells_are : core.cells ≡ []
    cells_are = ap (λ (c : Core). c.cells) made.core_is

    pending_is : pending old.flight.messages feeds core ≡ left
    pending_is =
        ap (λ (sent : List Write). sent ++ core.buffer ++ to_feed feeds core.core) unsent
        ∙ ap (λ (buffer : List Write). buffer ++ to_feed feeds core.core) buffer_is ∙ made.feed_is

    same_writes : writes (longer old one) ≡ writes old.journal.entries
    same_writes = writes-push_other old.journal.entries one no_write

    begun : (slice : Slice) → Contains (begun_map old subs) slice → slice.id ≡ core.core.slice → begun_slice made.sub ≡ slice
    begun slice there same =
        is_begun old.map subs made.sub slice is_map made.there there
        (same ∙ ap (λ (name : CoreId). name.slice) named)

    serves : Serves old.journal.entries plan.cut.0 leader
    serves =
        All-contains (λ (c : Core). (slice : Slice) → Contains old.map slice → slice.id ≡ c.core.slice
        → Serves old.journal.entries slice c) old.replicas leader sound.leaders leader_there plan.cut.0
        plan.cut.1.there (plan.cut.1.named ∙ sym leads.0)

    written : AreWritten old.journal.entries old.flight.messages old.feeds leader
    written =
        All-contains (AreWritten old.journal.entries old.flight.messages old.feeds) old.replicas leader sound.written
        leader_there

    fed : (id : List ℕ) (write : Write) → IsWithin made.sub.min made.sub.max (route_hash id)
        → last_write old.journal.entries id ≡ Some write → Contains left write
    fed id write within last =
        let parent_slice = plan.cut.0 in
        let in_parent : IsWithin parent_slice.range.min parent_slice.range.max (route_hash id) =
        sub_within subs made.sub parent_slice.range.min parent_slice.range.max (route_hash id) plan.cut.1.tile
        made.there within in
        let cell : write_of leader.cells id ≡ Some write =
        (serves plan.cut.1.active leads.1).1 id in_parent ∙ last in
        let is = last_write_is old.journal.entries id write last in
        let hash : write.hash ≡ route_hash id =
        legal_hash old.first old.journal.entries write sound.journal.legal is.1 ∙ ap route_hash is.2 in
        Contains-filter (is_within (sub_range made.sub)) leader.cells write
        (Contains-find (is_of id) leader.cells write cell)
        ((contains-Decides write.hash made.sub.min made.sub.max).1
        (subst (IsWithin made.sub.min made.sub.max) (sym hash) within))

    no_active : (slice : Slice) → begun_slice made.sub ≡ slice → slice.state ≡ states.Active → ⊥
    no_active slice is active =
        let both : states.Construction ≡ states.Active = ap (λ (s : Slice). s.state) is ∙ active in
        cc

    fresh : IsSoundCore (begun_map old subs) (longer old one) [] left core
    fresh = record {
      serves = λ slice there same active first. absurd (no_active slice (begun slice there same) active);
      written = (
        subst (All (Contains (writes (longer old one)))) (sym cells_are) (All-nil (Contains (writes (longer old one)))),
        subst (λ (all : List Write). All (Contains all) left) (sym same_writes)
            (All-filter (is_within (sub_range made.sub)) (Contains (writes old.journal.entries)) leader.cells written.0),
      );
      held = λ slice there same attached id write within found.
          inr (fed id write
          (subst (λ (s : Slice). IsWithin s.range.min s.range.max (route_hash id))
          (sym (begun slice there same)) within)
          (sym (last_write-same old.journal.entries (longer old one) id same_writes) ∙ found));
      in_range = λ slice there same. (
        subst (All (IsInRange slice)) (sym cells_are) (All-nil (IsInRange slice)),
        subst (λ (s : Slice). All (IsInRange s) left) (begun slice there same)
            (All-weaker (λ (w : Write). is_within (sub_range made.sub) w ≡ true) (IsInRange (begun_slice made.sub))
            (λ w passes. (contains-Decides w.hash made.sub.min made.sub.max).0 passes) left
            (filter_passes (is_within (sub_range made.sub)) leader.cells)),
      );
      clock = inl (ap (λ (c : Core). c.clock) made.core_is);
      cell_room = made.roomy;
      buffer_room = omega arith;
    }
