-- A bucket is sound once one of its cores, or its feeds, or both were changed, where that core is.
use Rattle.std.proofs.Common.{◌≡◌, ◌≢◌, ◌≤◌, ℕ, Bool, true, false, List, ◌++◌, length, map, get_or, set, slice_get, Some, All, Contains, refl, sym, ap, ◌∙◌, subst}
use Rattle.std.proofs.lemmas.Bool.{false_from_ne_true}
use Rattle.std.proofs.Math.Seq.{map-set_same}
use Rattle.std.proofs.lemmas.List.Elements.{All-weaker}
use Rattle.std.proofs.lemmas.Option.{get_or_from_slice_get}
use Rattle.std.proofs.lemmas.Simd.{map-map}
use Rattle.sc_record.specs.declared.slice.CoreId.{CoreId}
use Rattle.sc_record.specs.Writes.{Write}
use Rattle.sc_cluster.specs.declared.slice.Slice.{Slice}
use Rattle.sc_cluster.specs.Slices.{is_forming}
use Rattle.sc_ulog.specs.declared.mode.Mode.TheVariants.{Active}
use Rattle.sc_replica.specs.Core.{Core}
use Rattle.sc_bucket.specs.Kept.{Sent, FeedState}
use Rattle.sc_record.specs.Names.{is_core}
use Rattle.sc_replicas.specs.Cores.{IsCoreWithoutRoom}
use Rattle.sc_bucket.specs.Flight.{in_flight}
use Rattle.sc_bucket.specs.Pending.{to_feed}
use Rattle.sc_bucket.specs.Sound.{may_catch_up, HasCores, OfEachCore, IsSent, AreSent, IsFeed, AreFeeds, AreLedActively, IsInPhase, IsSound}
use Rattle.sc_bucket.specs.declared.bucket.Bucket.{Bucket}
use Rattle.sc_bucket.specs.declared.phase.Phase.{Phase}
use Rattle.sc_bucket.specs.declared.phase.Phase.TheVariants as phases
use Rattle.sc_replicas.proofs.CoreLemmas.{name_of, is_core-Decides, AreApart-from_ascending, core_alone}
use Rattle.sc_bucket.proofs.PlaceLemmas.{All-set_apart}
use Rattle.sc_bucket.proofs.RoomLemmas.{HasJournal-same}
use Rattle.sc_bucket.proofs.SearcherLemmas.{HasSearchers-same}
use Rattle.sc_bucket.proofs.SoundLemmas.{All-slice_get, name_and_mark, SaysSame-same, AreMarked-left, HasCores-named, IsIdle-same, IsOpen-same}
use Rattle.sc_bucket.proofs.DeliveredLemmas.{IsSoundCore}
use Rattle.sc_bucket.proofs.DeliverLemmas.{IsSoundIn, core_is_sound}
use Rattle.sc_bucket.proofs.TakenLemmas.{Contains-slice_get}
use Rattle.sc_handover.specs.Events.{HasSameRest}
use Rattle.sc_handover.proofs.EachCoreLemmas.{core_in, IsSound-each}

-- the bucket with these feeds and these cores
abbrev pub with_fed : Bucket → List FeedState → List Core → Bucket
with_fed b feeds cores = record b { feeds = feeds; replicas = cores }

-- a core is sound there where it is with the name, the buffer and the writes to feed that it has
pub IsSoundIn-parts : (b : Bucket) (feeds : List FeedState) (cores : List Core) (core : Core) (name : CoreId)
    (buffer left : List Write) → core.core ≡ name → core.buffer ≡ buffer → to_feed feeds name ≡ left
    → IsSoundCore b.map b.journal.entries (in_flight b.flight.messages name)
    (in_flight b.flight.messages name ++ buffer ++ left) core
    → IsSoundIn (with_fed b feeds cores) b.flight.messages core
IsSoundIn-parts b feeds cores core name buffer left named kept fed sound =
    let messages : List Sent = b.flight.messages in
    subst (λ (n : CoreId). IsSoundCore b.map b.journal.entries (in_flight messages n)
    (in_flight messages n ++ core.buffer ++ to_feed feeds n) core) (sym named)
    (subst (λ (these : List Write). IsSoundCore b.map b.journal.entries (in_flight messages name)
    (in_flight messages name ++ these ++ to_feed feeds name) core) (sym kept)
    (subst (λ (these : List Write). IsSoundCore b.map b.journal.entries (in_flight messages name)
    (in_flight messages name ++ buffer ++ these) core) (sym fed) sound))

-- nothing else of it was changed
pub HasSameRest-with_fed : (b : Bucket) (feeds : List FeedState) (cores : List Core)
    → HasSameRest b (with_fed b feeds cores)
HasSameRest-with_fed b feeds cores = record {
  name = record { first = refl; limit = refl; filed = refl };
  map_is = refl;
  entries = refl;
  phase_is = refl;
  messages = refl;
  searchers_are = refl;
}

-- the messages are to cores that are there, where each name that was there still is
AreSent-with_fed : (b : Bucket) (feeds : List FeedState) (cores : List Core)
    → ((name : CoreId) → Contains (map name_of b.replicas) name → Contains (map name_of cores) name) → AreSent b
    → AreSent (with_fed b feeds cores)
AreSent-with_fed b feeds cores still sent = record {
  each = All-weaker (IsSent b) (IsSent (with_fed b feeds cores))
      (λ message is. record { write = is.write; unsettled = is.unsettled; core = still message.core is.core; up = is.up })
      b.flight.messages sent.each;
  once = sent.once;
}

-- a feed that looks at its rows from another on is as it has to be, where its core stays
pub IsFeed-with_fed : (b : Bucket) (feeds : List FeedState) (cores : List Core) (feed : FeedState) (next : ℕ)
    → (is : IsFeed b feed) → Contains cores is.core → next ≤ length feed.rows
    → IsFeed (with_fed b feeds cores) (record feed { next = next })
IsFeed-with_fed b feeds cores feed next is stays within = record {
  slice = is.slice;
  there = is.there;
  catches_up = is.catches_up;
  of_slice = is.of_slice;
  range_is = is.range_is;
  core = is.core;
  core_there = stays;
  core_is = is.core_is;
  buffering = is.buffering;
  within = within;
}

-- It is sound where each core is, each name that was there still is, and the cores, the feeds and the phase are as they
-- have to be.
pub IsSound-with_fed : (b : Bucket) (feeds : List FeedState) (cores : List Core) → IsSound b
    → All (IsSoundIn (with_fed b feeds cores) b.flight.messages) cores → All IsCoreWithoutRoom cores
    → ((name : CoreId) → Contains (map name_of b.replicas) name → Contains (map name_of cores) name)
    → HasCores (with_fed b feeds cores) → AreFeeds (with_fed b feeds cores)
    → IsInPhase (with_fed b feeds cores) b.phase → IsSound (with_fed b feeds cores)
IsSound-with_fed b feeds cores sound each in_order still has are phase =
    let new : Bucket = with_fed b feeds cores in
    IsSound-each new each in_order
    (HasJournal-same b new refl refl refl refl refl refl sound.journal.room sound.journal)
    (HasSearchers-same b new refl refl refl sound.searchers) sound.prepared
    (AreSent-with_fed b feeds cores still sound.messages) has are phase

-- it is in the same phase
same_phase : (b : Bucket) (feeds : List FeedState) (cores : List Core) (phase : Phase)
    → (AreLedActively b → AreLedActively (with_fed b feeds cores)) → IsInPhase b phase
    → IsInPhase (with_fed b feeds cores) phase
same_phase b feeds cores phases.Idle led is = IsIdle-same b (with_fed b feeds cores) refl refl is
same_phase b feeds cores (phases.Building parent) led is = IsOpen-same b (with_fed b feeds cores) parent refl refl is
same_phase b feeds cores (phases.Recovering parent) led is =
    (IsOpen-same b (with_fed b feeds cores) parent refl refl is.0, led is.1)

-- It is sound where each core is, the cores have the same names, marks and numbers and are active where they have to be, and the
-- feeds are as they have to be.
IsSound-changed : (b : Bucket) (feeds : List FeedState) (cores : List Core) → IsSound b
    → All (IsSoundIn (with_fed b feeds cores) b.flight.messages) cores → All IsCoreWithoutRoom cores
    → map name_and_mark cores ≡ map name_and_mark b.replicas
    → OfEachCore (with_fed b feeds cores)
    (λ (slice : Slice) (core : Core). may_catch_up b.phase slice core.core ≡ false → core.mode ≡ Active)
    → (AreLedActively b → AreLedActively (with_fed b feeds cores)) → AreFeeds (with_fed b feeds cores)
    → IsSound (with_fed b feeds cores)
IsSound-changed b feeds cores sound each in_order marks active led are =
    let new : Bucket = with_fed b feeds cores in
    let name : CoreId × Bool × ℕ → CoreId = λ pair. pair.0 in
    let names : map name_of cores ≡ map name_of b.replicas =
    sym (map-map name name_and_mark cores) ∙ ap (map name) marks ∙ map-map name name_and_mark b.replicas in
    IsSound-with_fed b feeds cores sound each in_order
    (λ name. subst (λ (those : List CoreId). Contains those name) (sym names))
    (HasCores-named b new refl names active
    (AreMarked-left b.journal.entries b.journal.entries b.replicas cores marks
    (SaysSame-same b.journal.entries b.journal.entries refl) sound.cores.marked) sound.cores)
    are (same_phase b feeds cores b.phase led sound.phase)

-- a core for which the same is still to be fed is sound as before
still_sound : (b : Bucket) (feeds : List FeedState) (cores : List Core) (core : Core)
    → to_feed feeds core.core ≡ to_feed b.feeds core.core → IsSoundIn b b.flight.messages core
    → IsSoundIn (with_fed b feeds cores) b.flight.messages core
still_sound b feeds cores core same before =
    IsSoundIn-parts b feeds cores core core.core core.buffer (to_feed b.feeds core.core) refl refl same before

-- It is sound where the feeds alone were changed, and each core is still to be fed the same.
pub IsSound-other_feeds : (b : Bucket) (feeds : List FeedState) → IsSound b
    → ((name : CoreId) → to_feed feeds name ≡ to_feed b.feeds name) → AreFeeds (with_fed b feeds b.replicas)
    → IsSound (with_fed b feeds b.replicas)
IsSound-other_feeds b feeds sound same are =
    IsSound-changed b feeds b.replicas sound
    (λ k d below. still_sound b feeds b.replicas (get_or b.replicas k d) (same (get_or b.replicas k d).core)
    (core_is_sound b k d below sound))
    sound.in_order refl sound.cores.active (λ led. led) are

-- what is said of each core and its slice is said of each once the core at a place was changed, where it is said of
-- that one
changed_of_each : (P : Slice → Core → Type 0) (b : Bucket) (feeds : List FeedState) (at : ℕ) (core new : Core)
    → slice_get b.replicas at ≡ Some core → new.core ≡ core.core → ((slice : Slice) → P slice core → P slice new)
    → OfEachCore b P → OfEachCore (with_fed b feeds (set b.replicas at new)) P
changed_of_each P b feeds at core new there named step each =
    All-set_apart Of b.replicas at new
    (λ slice inside of_slice. step slice
    (All-slice_get Of b.replicas at core each there slice inside
    (of_slice ∙ ap (λ (name : CoreId). name.slice) named)))
    (λ k other apart is. All-slice_get Of b.replicas k other each is)
  where
    Of : Core → Type 0
    Of one = (slice : Slice) → Contains b.map slice → slice.id ≡ one.core.slice → P slice one

-- a core at another place has another name
pub apart_from : (b : Bucket) (at k : ℕ) (core other : Core) → IsSound b → slice_get b.replicas at ≡ Some core
    → slice_get b.replicas k ≡ Some other → k ≢ at → is_core other.core core.core ≡ false
apart_from b at k core other sound there is differ =
    false_from_ne_true (is_core other.core core.core) (λ same.
    differ (core_alone b.replicas k at other core (AreApart-from_ascending b.replicas sound.cores.ascend) is there
    ((is_core-Decides other.core core.core).0 same)))

-- It is sound where the core at a place was changed, and perhaps the feeds: that core has its name, its mark and its number, is active where
-- it was, is in order if it was, and is sound with what is pending for it now; each other is still to be fed the same; and the feeds are as
-- they have to be.
pub IsSound-core_changed : (b : Bucket) (feeds : List FeedState) (at : ℕ) (core new : Core) → IsSound b
    → slice_get b.replicas at ≡ Some core → name_and_mark new ≡ name_and_mark core
    → (core.mode ≡ Active → new.mode ≡ Active) → (IsCoreWithoutRoom core → IsCoreWithoutRoom new) → IsSoundIn (with_fed b feeds (set b.replicas at new)) b.flight.messages new
    → ((name : CoreId) → is_core name core.core ≡ false → to_feed feeds name ≡ to_feed b.feeds name)
    → AreFeeds (with_fed b feeds (set b.replicas at new)) → IsSound (with_fed b feeds (set b.replicas at new))
IsSound-core_changed b feeds at core new sound there same still in_order own others are =
    let cores : List Core = set b.replicas at new in
    let named : new.core ≡ core.core = ap (λ (pair : CoreId × Bool × ℕ). pair.0) same in
    IsSound-changed b feeds cores sound
    (All-set_apart (IsSoundIn (with_fed b feeds cores) b.flight.messages) b.replicas at new own
    (λ k other differ is. still_sound b feeds cores other
    (others other.core (apart_from b at k core other sound there is differ))
    (core_in b other sound (Contains-slice_get b.replicas k other is))))
    (All-set_apart IsCoreWithoutRoom b.replicas at new
    (in_order (All-slice_get IsCoreWithoutRoom b.replicas at core sound.in_order there))
    (λ k other differ is. All-slice_get IsCoreWithoutRoom b.replicas k other sound.in_order is))
    (map-set_same name_and_mark b.replicas at new core
    (same ∙ ap name_and_mark (sym (get_or_from_slice_get b.replicas at core core there))))
    (changed_of_each (λ slice one. may_catch_up b.phase slice one.core ≡ false → one.mode ≡ Active) b feeds at core new
    there named
    (λ slice active caught_up. still (active (ap (may_catch_up b.phase slice) (sym named) ∙ caught_up))) sound.cores.active)
    (λ led. changed_of_each (λ slice one. is_forming slice ≡ true → one.core.replica ≡ 1 → one.mode ≡ Active)
    b feeds at core new there named
    (λ slice active forming first. still (active forming (ap (λ (name : CoreId). name.replica) (sym named) ∙ first)))
    led)
    are
