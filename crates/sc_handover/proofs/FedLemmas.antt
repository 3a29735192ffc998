-- A core that is fed rows: what it is still to be fed then, and that the bucket is sound.
use Rattle.std.proofs.Common.{◌≡◌, ℕ, zero, suc, ◌+◌, ◌≤◌, ◌<◌, Bool, true, false, cond, List, [], ◌∷◌, ◌++◌, length, map, filter, set, take, drop, slice_get, Some, All, refl, sym, ap, ◌∙◌, subst, arith}
use Rattle.std.specs.List.{IsDistinct, flat_map, remove}
use Rattle.std.proofs.Math.Seq.{map-set_same}
use Rattle.std.proofs.lemmas.List.{drop-drop, take-append-drop, length-map}
use Rattle.std.proofs.lemmas.List.Elements.{All-append, All-drop, All-take, All-weaker, filter-append}
use Rattle.std.proofs.lemmas.List.Quantifiers.{all_pairs_remove}
use Rattle.std.proofs.lemmas.Map.Keys.{apart_from_distinct, IsDistinct-from_apart}
use Rattle.std.proofs.lemmas.Option.{none-some, same_Some, slice_get_within, get_or_from_slice_get}
use Rattle.sc_record.specs.declared.slice.CoreId.{CoreId}
use Rattle.sc_record.specs.Writes.{Write}
use Rattle.sc_replica.specs.Core.{Core, fed, fed_all}
use Rattle.sc_replica.proofs.CoreLemmas.{mode-fed_all}
use Rattle.sc_bucket.specs.Kept.{FeedState}
use Rattle.sc_record.specs.Names.{is_core}
use Rattle.sc_bucket.specs.Flight.{in_flight}
use Rattle.sc_snapshot.specs.Rows.{is_within}
use Rattle.sc_bucket.specs.Pending.{is_feed_of, left_of, to_feed}
use Rattle.sc_bucket.specs.Sound.{IsFeed, AreFeeds, IsSound}
use Rattle.sc_bucket.specs.declared.bucket.Bucket.{Bucket}
use Rattle.sc_replicas.proofs.CoreLemmas.{is_core-Decides}
use Rattle.sc_bucket.proofs.FeedLemmas.{fed_core, to_feed-of}
use Rattle.sc_bucket.proofs.FlightLemmas.{map-remove}
use Rattle.sc_bucket.proofs.PlaceLemmas.{All-set_apart, slice_get-set}
use Rattle.sc_bucket.proofs.SoundLemmas.{All-slice_get, name_and_mode, name_and_mark, AreAlike, AreAlike-set, IsFeed-alike}
use Rattle.sc_bucket.proofs.DeliveredLemmas.{IsSoundCore, fed_all_is_sound}
use Rattle.sc_bucket.proofs.TakenLemmas.{Contains-slice_get}
use Rattle.sc_bucket.proofs.InOrderLemmas.{in_order-fed_all}
use Rattle.sc_handover.proofs.EachCoreLemmas.{core_in}
use Rattle.sc_handover.specs.Feeding.{fed_core_at, IsFedAt, next_fed, after_rows}
use Rattle.sc_handover.proofs.ChangedLemmas.{with_fed, IsFeed-with_fed, IsSoundIn-parts, IsSound-core_changed, IsSound-other_feeds}

-- writes that are applied change neither the name, nor the mark, nor the log
pub name-fed_all : (core : Core) (writes : List Write) → (fed_all core writes).core ≡ core.core
name-fed_all core [] = refl
name-fed_all core (write ∷ writes) = name-fed_all (fed core write) writes

buffer-fed_all : (core : Core) (writes : List Write) → (fed_all core writes).buffer ≡ core.buffer
buffer-fed_all core [] = refl
buffer-fed_all core (write ∷ writes) = buffer-fed_all (fed core write) writes

name_and_mode-fed_all : (core : Core) (writes : List Write) → name_and_mode (fed_all core writes) ≡ name_and_mode core
name_and_mode-fed_all core [] = refl
name_and_mode-fed_all core (write ∷ writes) = name_and_mode-fed_all (fed core write) writes

pub name_and_mark-fed_all : (core : Core) (writes : List Write) → name_and_mark (fed_all core writes) ≡ name_and_mark core
name_and_mark-fed_all core [] = refl
name_and_mark-fed_all core (write ∷ writes) = name_and_mark-fed_all (fed core write) writes

-- and some are applied after others where all are
pub fed_all-append : (core : Core) (xs ys : List Write) → fed_all core (xs ++ ys) ≡ fed_all (fed_all core xs) ys
fed_all-append core [] ys = refl
fed_all-append core (x ∷ xs) ys = fed_all-append (fed core x) xs ys

-- what is left of a feed begins with its next rows
pub left-next : (n : ℕ) (feed : FeedState) → left_of feed ≡ next_fed n feed ++ left_of (after_rows n feed)
left-next n feed =
    ap (filter (is_within feed.range)) (sym (take-append-drop n (drop feed.next feed.rows)))
    ∙ filter-append (is_within feed.range) (take n (drop feed.next feed.rows)) (drop n (drop feed.next feed.rows))
    ∙ ap (λ rows. next_fed n feed ++ filter (is_within feed.range) rows) (drop-drop n feed.next feed.rows)

-- where the same is to be fed of the feeds after one, the same is with it
to_feed-after : (first : FeedState) (xs ys : List FeedState) (name : CoreId) → to_feed xs name ≡ to_feed ys name
    → to_feed (first ∷ xs) name ≡ to_feed (first ∷ ys) name
to_feed-after first xs ys name = by (is_feed_of name first) where
  these : List FeedState
  these = filter (is_feed_of name) xs

  those : List FeedState
  those = filter (is_feed_of name) ys

  by : (b : Bool) → flat_map left_of these ≡ flat_map left_of those
      → flat_map left_of (cond b (first ∷ these) these) ≡ flat_map left_of (cond b (first ∷ those) those)
  by true rest = ap (λ writes. left_of first ++ writes) rest
  by false rest = rest

-- a feed that changes leaves what another core is still to be fed
to_feed-other : (feeds : List FeedState) (at : ℕ) (feed new : FeedState) (name : CoreId)
    → slice_get feeds at ≡ Some feed
    → new.core ≡ feed.core → is_feed_of name feed ≡ false → to_feed (set feeds at new) name ≡ to_feed feeds name
to_feed-other [] at feed new name there same other = refl
to_feed-other (first ∷ feeds) zero feed new name there same other =
    let before : is_feed_of name first ≡ false = ap (is_feed_of name) (same_Some first feed there) ∙ other in
    let after : is_feed_of name new ≡ false = ap (is_core name) same ∙ other in
    rw (before, after) refl
to_feed-other (first ∷ feeds) (suc at) feed new name there same other =
    to_feed-after first (set feeds at new) feeds name (to_feed-other feeds at feed new name there same other)

-- and one with nothing left that is taken away leaves what each core is
to_feed-removed : (feeds : List FeedState) (at : ℕ) (feed : FeedState) (name : CoreId) → slice_get feeds at ≡ Some feed
    → left_of feed ≡ [] → to_feed (remove feeds at) name ≡ to_feed feeds name
to_feed-removed [] at feed name there none = absurd (none-some feed there)
to_feed-removed (first ∷ feeds) zero feed name there none = by (is_feed_of name first) where
  those : List FeedState
  those = filter (is_feed_of name) feeds

  by : (b : Bool) → flat_map left_of those ≡ flat_map left_of (cond b (first ∷ those) those)
  by true = ap (λ writes. writes ++ flat_map left_of those) (sym (ap left_of (same_Some first feed there) ∙ none))
  by false = refl
to_feed-removed (first ∷ feeds) (suc at) feed name there none =
    to_feed-after first (remove feeds at) feeds name (to_feed-removed feeds at feed name there none)

-- the names of the feeds stay where one looks at more rows
names-moved : (feeds : List FeedState) (at : ℕ) (feed new : FeedState) → slice_get feeds at ≡ Some feed
    → new.core ≡ feed.core
    → map fed_core (set feeds at new) ≡ map fed_core feeds
names-moved feeds at feed new there same =
    map-set_same fed_core feeds at new feed (same ∙ ap fed_core (sym (get_or_from_slice_get feeds at feed feed there)))

-- so the feeds are as they have to be
AreFeeds-moved : (b : Bucket) (at n : ℕ) (feed : FeedState) (cores : List Core) → AreFeeds b
    → slice_get b.feeds at ≡ Some feed
    → feed.next + n ≤ length feed.rows → AreAlike b.replicas cores
    → AreFeeds (with_fed b (set b.feeds at (after_rows n feed)) cores)
AreFeeds-moved b at n feed cores are there within alike =
    let new : Bucket = with_fed b (set b.feeds at (after_rows n feed)) cores in
    let is = All-slice_get (IsFeed b) b.feeds at feed are.each there in
    record {
      each = All-set_apart (IsFeed new) b.feeds at (after_rows n feed)
          (IsFeed-alike b new (after_rows n feed) refl refl alike
          (IsFeed-with_fed b b.feeds b.replicas feed (feed.next + n) is is.core_there within))
          (λ k other apart at_k. IsFeed-alike b new other refl refl alike
          (All-slice_get (IsFeed b) b.feeds k other are.each at_k));
      once = subst (IsDistinct is_core) (sym (names-moved b.feeds at feed (after_rows n feed) there refl)) are.once;
    }

-- and they are where one was taken away
AreFeeds-removed : (b : Bucket) (at : ℕ) (feed : FeedState) → AreFeeds b → slice_get b.feeds at ≡ Some feed
    → AreFeeds (with_fed b (remove b.feeds at) b.replicas)
AreFeeds-removed b at feed are there = record {
  each = All-append (IsFeed new) (take at b.feeds) (drop (suc at) b.feeds)
      (All-take (IsFeed new) at b.feeds each) (All-drop (IsFeed new) (suc at) b.feeds each);
  once = subst (IsDistinct is_core) (sym (map-remove fed_core b.feeds at))
      (IsDistinct-from_apart is_core (remove names at)
      (all_pairs_remove (λ (one other : CoreId). is_core one other ≡ false) names at within
      (λ i j d. λ before inside. apart_from_distinct is_core names i j d are.once before inside)));
} where
  new : Bucket
  new = with_fed b (remove b.feeds at) b.replicas

  names : List CoreId
  names = map fed_core b.feeds

  within : at < length names
  within = omega (arith, slice_get_within b.feeds at feed there, length-map b.feeds fed_core)

  each : All (IsFeed new) b.feeds
  each = All-weaker (IsFeed b) (IsFeed new) (λ one. IsFeed-alike b new one refl refl refl) b.feeds are.each

-- what a core is still to be fed is what its feed has left
pub to_feed-at : (b : Bucket) (feed_at core_at : ℕ) (feed : FeedState) (core : Core) → IsSound b
    → IsFedAt b (fed_core_at feed_at core_at feed core) → to_feed b.feeds core.core ≡ left_of feed
to_feed-at b feed_at core_at feed core sound is =
    to_feed-of b.feeds feed_at feed core.core sound.feeds.once is.feed_found
    ((is_core-Decides core.core feed.core).1 is.core_is)

-- It is sound once the core was fed the next rows of its feed.
pub IsSound-fed : (b : Bucket) (feed_at core_at n : ℕ) (feed : FeedState) (core : Core) → IsSound b
    → IsFedAt b (fed_core_at feed_at core_at feed core) → feed.next + n ≤ length feed.rows
    → IsSound (with_fed b (set b.feeds feed_at (after_rows n feed))
    (set b.replicas core_at (fed_all core (next_fed n feed))))
IsSound-fed b feed_at core_at n feed core sound is within =
    IsSound-core_changed b feeds core_at core after sound is.core_found (name_and_mark-fed_all core these)
    (λ active. mode-fed_all core these ∙ active) (in_order-fed_all core these)
    (IsSoundIn-parts b feeds cores after core.core core.buffer (left_of new) (name-fed_all core these)
    (buffer-fed_all core these) still
    (fed_all_is_sound b.first b.map b.journal.entries sent (sent ++ core.buffer) these
    (left_of new) core sound.journal.legal
    (subst (λ (left : List Write). IsSoundCore b.map b.journal.entries sent (sent ++ core.buffer ++ left) core)
    (to_feed-at b feed_at core_at feed core sound is ∙ left-next n feed)
    (core_in b core sound (Contains-slice_get b.replicas core_at core is.core_found)))))
    (λ name apart. to_feed-other b.feeds feed_at feed new name is.feed_found refl
    (ap (is_core name) (sym is.core_is) ∙ apart))
    (AreFeeds-moved b feed_at n feed cores sound.feeds is.feed_found within
    (AreAlike-set b.replicas core_at core after is.core_found (name_and_mode-fed_all core these)))
  where
    these : List Write
    these = next_fed n feed

    after : Core
    after = fed_all core these

    new : FeedState
    new = after_rows n feed

    feeds : List FeedState
    feeds = set b.feeds feed_at new

    cores : List Core
    cores = set b.replicas core_at after

    sent : List Write
    sent = in_flight b.flight.messages core.core

    still : to_feed feeds core.core ≡ left_of new
    still =
        to_feed-of feeds feed_at new core.core
        (subst (IsDistinct is_core) (sym (names-moved b.feeds feed_at feed new is.feed_found refl)) sound.feeds.once)
        (slice_get-set b.feeds feed_at new (slice_get_within b.feeds feed_at feed is.feed_found))
        ((is_core-Decides core.core feed.core).1 is.core_is)

-- And it is once a feed with nothing left was taken away.
pub IsSound-ended : (b : Bucket) (at : ℕ) (feed : FeedState) → IsSound b → slice_get b.feeds at ≡ Some feed
    → left_of feed ≡ []
    → IsSound (with_fed b (remove b.feeds at) b.replicas)
IsSound-ended b at feed sound there none =
    IsSound-other_feeds b (remove b.feeds at) sound (λ name. to_feed-removed b.feeds at feed name there none)
    (AreFeeds-removed b at feed sound.feeds there)
