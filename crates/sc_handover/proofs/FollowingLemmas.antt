-- A core without cells that is fed from its slice's leader's cells is sound, and its feed is as it has to be, where nothing else is
-- pending for a core of its name.
use Rattle.std.proofs.Common.{◌≡◌, inl, inr, true, false, cond, List, [], ◌∷◌, ◌++◌, length, get_or, map, filter, Some, All, Contains, sym, ap, ◌∙◌, subst, arith}
use Rattle.std.specs.List.{IsDistinct, flat_map}
use Rattle.std.proofs.lemmas.List.{append-nil, map-append}
use Rattle.std.proofs.lemmas.List.Elements.{All-cons, All-contains, All-filter, All-map, All-nil, All-push, All-weaker, filter-append}
use Rattle.std.proofs.lemmas.Map.Keys.{IsDistinct-from_apart}
use Rattle.sc_hash.proofs.BoundsLemmas.{contains-Decides}
use Rattle.sc_record.specs.Names.{is_core}
use Rattle.sc_record.specs.Writes.{is_of, write_of, Write}
use Rattle.sc_record.specs.declared.slice.CoreId.{CoreId}
use Rattle.sc_cluster.specs.declared.slice.Slice.{Slice}
use Rattle.sc_cluster.proofs.LeaderLemmas.{same_from_id}
use Rattle.sc_cluster.proofs.ListLemmas.{Contains-filter, filter-none}
use Rattle.sc_ulog.specs.declared.mode.Mode.TheVariants.{Buffering}
use Rattle.sc_replica.specs.Core.{Core}
use Rattle.sc_journal.specs.Journal.{writes}
use Rattle.sc_bucket.specs.Kept.{FeedState}
use Rattle.sc_bucket.specs.Flight.{in_flight}
use Rattle.sc_snapshot.specs.Rows.{is_within}
use Rattle.sc_bucket.specs.Pending.{is_feed_of, left_of, to_feed, pending}
use Rattle.sc_bucket.specs.Sound.{HasLastWrites, IsInRange, may_catch_up, IsFeed, AreFeeds, IsSound}
use Rattle.sc_bucket.specs.declared.bucket.Bucket.{Bucket}
use Rattle.sc_bucket.proofs.AcceptLemmas.{bucket_has_map}
use Rattle.sc_replicas.proofs.CoreLemmas.{is_core-Decides}
use Rattle.sc_bucket.proofs.DeliveredLemmas.{IsSoundCore}
use Rattle.sc_bucket.proofs.FeedLemmas.{fed_core}
use Rattle.sc_bucket.proofs.FollowerLemmas.{IsDistinct-append}
use Rattle.sc_bucket.proofs.LeftOutLemmas.{apart_too}
use Rattle.sc_bucket.proofs.WriteLemmas.{Contains-find}
use Rattle.sc_handover.specs.Conditions.{IsUnfed}
use Rattle.sc_handover.specs.Parts.{CanFollow, IsMade}
use Rattle.sc_handover.proofs.EachCoreLemmas.{IsSoundWith, core_in}
use Rattle.sc_handover.proofs.ChangedLemmas.{with_fed, IsFeed-with_fed}

-- the core and its feed were made, and nothing else is pending for a core of its name
pub record IsReadyToFollow (b : Bucket) (name : CoreId) (slice : Slice) (core : Core) (feed : FeedState) : Type 0 where
  pub sound : IsSound b
  pub can : CanFollow b name slice
  pub made : IsMade b name slice core feed
  pub unsent : in_flight b.flight.messages name ≡ []
  pub unfed : IsUnfed b name

-- ---- names
pub core_named : (b : Bucket) (name : CoreId) (slice : Slice) (core : Core) (feed : FeedState) → IsMade b name slice core feed
    → core.core ≡ name
core_named b name slice core feed made = ap (λ (c : Core). c.core) made.core_is

pub feed_named : (b : Bucket) (name : CoreId) (slice : Slice) (core : Core) (feed : FeedState) → IsMade b name slice core feed
    → feed.core ≡ name
feed_named b name slice core feed made = ap (λ (f : FeedState). f.core) made.feed_is

-- ---- what is to be fed
-- to another core what was
to_feed-other : (feeds : List FeedState) (feed : FeedState) (core : CoreId) → is_feed_of core feed ≡ false
    → to_feed (feeds ++ feed ∷ []) core ≡ to_feed feeds core
to_feed-other feeds feed core other =
    ap (flat_map left_of) (filter-append (is_feed_of core) feeds (feed ∷ [])
    ∙ ap (λ b. filter (is_feed_of core) feeds ++ cond b (feed ∷ []) []) other
    ∙ append-nil (filter (is_feed_of core) feeds))

-- and to its own what it has left
to_feed-own : (feeds : List FeedState) (feed : FeedState) (core : CoreId)
    → All (λ (other : FeedState). is_feed_of core other ≡ false) feeds → is_feed_of core feed ≡ true
    → to_feed (feeds ++ feed ∷ []) core ≡ left_of feed
to_feed-own feeds feed core none own =
    ap (flat_map left_of) (filter-append (is_feed_of core) feeds (feed ∷ [])
    ∙ ap (λ these. these ++ filter (is_feed_of core) (feed ∷ [])) (filter-none (is_feed_of core) feeds none)
    ∙ ap (λ b. cond b (feed ∷ []) []) own)
    ∙ append-nil (left_of feed)

-- ---- the cores
-- the core is sound, where these messages are in flight and these are the feeds
abbrev pub IsSoundFed : Bucket → List FeedState → Core → Type 0
IsSoundFed b feeds core = IsSoundWith b.map b.journal.entries b.flight.messages feeds core

-- each of another name is
pub other_is_sound : (b : Bucket) (name : CoreId) (slice : Slice) (core : Core) (feed : FeedState) (other : Core)
    → IsReadyToFollow b name slice core feed → Contains b.replicas other → is_core name other.core ≡ false
    → IsSoundFed b (b.feeds ++ feed ∷ []) other
other_is_sound b name slice core feed other ready there differ =
    let apart : is_feed_of other.core feed ≡ false =
    ap (is_core other.core) (feed_named b name slice core feed ready.made) ∙ apart_too name other.core differ in
    subst (λ (left : List Write). IsSoundCore b.map b.journal.entries (in_flight b.flight.messages other.core)
    (in_flight b.flight.messages other.core ++ other.buffer ++ left) other)
    (sym (to_feed-other b.feeds feed other.core apart)) (core_in b other ready.sound there)

-- all that is pending for the new core are its leader's cells
abbrev rows_for : Slice → Core → List Write
rows_for slice leader = filter (is_within slice.range) leader.cells

pending_for : (b : Bucket) (name : CoreId) (slice : Slice) (core : Core) (feed : FeedState)
    → (ready : IsReadyToFollow b name slice core feed)
    → pending b.flight.messages (b.feeds ++ feed ∷ []) core ≡ rows_for slice ready.made.leader
pending_for b name slice core feed ready =
    ap (λ (these : List Write). these ++ core.buffer ++ left) (ap (in_flight b.flight.messages) named ∙ ready.unsent)
    ∙ ap (λ (these : List Write). these ++ left) (ap (λ (c : Core). c.buffer) ready.made.core_is)
    ∙ to_feed-own b.feeds feed core.core none own ∙ ap left_of ready.made.feed_is
  where
    named : core.core ≡ name
    named = core_named b name slice core feed ready.made

    left : List Write
    left = to_feed (b.feeds ++ feed ∷ []) core.core

    none : All (λ (other : FeedState). is_feed_of core.core other ≡ false) b.feeds
    none = subst (IsUnfed b) (sym named) ready.unfed

    own : is_feed_of core.core feed ≡ true
    own = (is_core-Decides core.core feed.core).1 (named ∙ sym (feed_named b name slice core feed ready.made))

-- so it is sound too
pub core_is_sound : (b : Bucket) (name : CoreId) (slice : Slice) (core : Core) (feed : FeedState)
    → IsReadyToFollow b name slice core feed → IsSoundFed b (b.feeds ++ feed ∷ []) core
core_is_sound b name slice core feed ready =
    subst (λ these. IsSoundCore b.map b.journal.entries (in_flight b.flight.messages core.core) these core)
    (sym (pending_for b name slice core feed ready)) (record {
      serves = λ one there of_core active leads.
          let first : name.replica ≡ 1 = ap (λ (n : CoreId). n.replica) (sym named) ∙ leads in
          absurd (omega (arith, ready.can.above, first));
      written = (
        no_cells (Contains (writes b.journal.entries)),
        All-filter (is_within slice.range) (Contains (writes b.journal.entries)) leader.cells leader_sound.written.0,
      );
      held = λ one there of_core attached id write within is.
          let same = is_slice one there of_core in
          let cell : write_of leader.cells id ≡ Some write = last_in one same id within ∙ is in
          inr (Contains-filter (is_within slice.range) leader.cells write (Contains-find (is_of id) leader.cells write cell)
          (inside write (Contains-find (is_of id) leader.cells write cell)));
      in_range = λ one there of_core. (
        no_cells (IsInRange one),
        subst (λ s. All (IsInRange s) (rows_for slice leader)) (sym (is_slice one there of_core))
            (All-filter (is_within slice.range) (IsInRange slice) leader.cells in_slice),
      );
      clock = inl (ap (λ (c : Core). c.clock) ready.made.core_is);
      cell_room = omega (arith, ready.made.roomy, ap length (sym (ap left_of ready.made.feed_is)));
      buffer_room = omega (arith, ap length (ap (in_flight b.flight.messages) named ∙ ready.unsent));
    })
  where
    leader : Core
    leader = ready.made.leader

    named : core.core ≡ name
    named = core_named b name slice core feed ready.made

    leader_sound : IsSoundFed b b.feeds leader
    leader_sound = core_in b leader ready.sound ready.made.leader_there

    in_slice : All (IsInRange slice) leader.cells
    in_slice = (leader_sound.in_range slice ready.can.there (sym ready.made.leader_is.0)).0

    inside : (write : Write) → Contains leader.cells write → is_within slice.range write ≡ true
    inside write there =
        (contains-Decides write.hash slice.range.min slice.range.max).1
        (All-contains (IsInRange slice) leader.cells write in_slice there)

    no_cells : (P : Write → Type 0) → All P core.cells
    no_cells P = subst (All P) (sym (ap (λ (c : Core). c.cells) ready.made.core_is)) (All-nil P)

    is_slice : (one : Slice) → Contains b.map one → one.id ≡ core.core.slice → one ≡ slice
    is_slice one there of_core =
        same_from_id b.map one slice (bucket_has_map b ready.sound.journal) there ready.can.there
        (of_core ∙ ap (λ (n : CoreId). n.slice) named ∙ ready.can.of_slice)

    last_in : (one : Slice) → one ≡ slice → HasLastWrites b.journal.entries one leader
    last_in one same = subst (λ s. HasLastWrites b.journal.entries s leader) (sym same) ready.made.last

-- ---- the feeds
-- they are as they have to be with its feed, where it is among these cores and those of other names still are
pub AreFeeds-followed : (b : Bucket) (name : CoreId) (slice : Slice) (core : Core) (feed : FeedState) (cores : List Core) (own : Core)
    → IsReadyToFollow b name slice core feed → may_catch_up b.phase slice name ≡ true
    → ((other : Core) → Contains b.replicas other → is_core name other.core ≡ false → Contains cores other)
    → Contains cores own → own.core ≡ name → own.mode ≡ Buffering
    → AreFeeds (with_fed b (b.feeds ++ feed ∷ []) cores)
AreFeeds-followed b name slice core feed cores own ready catches_up others own_there own_named buffers = record {
  each = All-push (IsFeed new) b.feeds feed
      (λ k d below. still (get_or b.feeds k d) (ready.sound.feeds.each k d below) (ready.unfed k d below)) its;
  once = subst (IsDistinct is_core) (sym (map-append fed_core b.feeds (feed ∷ [])))
      (IsDistinct-append is_core (map fed_core b.feeds) (feed.core ∷ []) ready.sound.feeds.once
      (IsDistinct-from_apart is_core (feed.core ∷ []) (λ i j d before below. absurd (omega arith)))
      (All-map (λ (one : CoreId). All (λ (other : CoreId). is_core one other ≡ false) (feed.core ∷ [])) fed_core b.feeds
      (All-weaker (λ (other : FeedState). is_feed_of name other ≡ false)
      (λ (other : FeedState). All (λ (n : CoreId). is_core other.core n ≡ false) (feed.core ∷ []))
      (λ other apart. All-cons (λ (n : CoreId). is_core other.core n ≡ false) feed.core []
      (ap (is_core other.core) fed ∙ apart_too name other.core apart)
      (All-nil (λ (n : CoreId). is_core other.core n ≡ false))) b.feeds ready.unfed)));
} where
  new : Bucket
  new = with_fed b (b.feeds ++ feed ∷ []) cores

  fed : feed.core ≡ name
  fed = feed_named b name slice core feed ready.made

  still : (other : FeedState) → IsFeed b other → is_feed_of name other ≡ false → IsFeed new other
  still other is apart =
      IsFeed-with_fed b (b.feeds ++ feed ∷ []) cores other other.next is
      (others is.core is.core_there (ap (is_core name) is.core_is ∙ apart)) is.within

  its : IsFeed new feed
  its = record {
    slice = slice;
    there = ready.can.there;
    catches_up = ap (may_catch_up b.phase slice) fed ∙ catches_up;
    of_slice = ap (λ (n : CoreId). n.slice) fed ∙ ready.can.of_slice;
    range_is = ap (λ (f : FeedState). f.range) ready.made.feed_is;
    core = own;
    core_there = own_there;
    core_is = own_named ∙ sym fed;
    buffering = buffers;
    within = omega (arith, ap (λ (f : FeedState). f.next) ready.made.feed_is);
  }
