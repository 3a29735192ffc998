-- What a feed has still to feed, and which feed is a core's.
use Rattle.std.proofs.Common.{Global, ◌≡◌, ◌∙◌, ℕ, zero, suc, ◌+◌, ◌<◌, Bool, true, false, List, [], ◌∷◌, ◌++◌, length, get_or, map, filter, drop, slice_get, Some, None, Option, All, IsSome, refl, sym, ap, arith}
use Rattle.std.specs.List.{IsDistinct, flat_map}
use Rattle.std.specs.Option.{option_map, option_to_list}
use Rattle.std.specs.Arc.{arc_value}
use Rattle.std.specs.declared.sync.Arc.{Arc}
use Rattle.std.proofs.Math.Seq.{drop-cons}
use Rattle.std.proofs.lemmas.List.{append-nil, length-map, get_or-map}
use Rattle.std.proofs.lemmas.List.Elements.{All-from_recursion}
use Rattle.std.proofs.lemmas.Map.Keys.{IsDistinct-head, IsDistinct-tail}
use Rattle.std.proofs.lemmas.Option.{none-some, slice_get_within, get_or_from_slice_get, same_Some}
use Rattle.sc_record.specs.declared.slice.CoreId.{CoreId}
use Rattle.sc_hash.specs.declared.range.Range.{Range}
use Rattle.sc_record.specs.Writes.{Write}
use Rattle.sc_cluster.proofs.ListLemmas.{filter-none}
use Rattle.sc_bucket.specs.Kept.{FeedState}
use Rattle.sc_record.specs.Names.{is_core}
use Rattle.sc_snapshot.specs.Rows.{is_within}
use Rattle.sc_bucket.specs.Pending.{is_feed_of, left_of, to_feed}
use Rattle.sc_replicas.proofs.CoreLemmas.{is_core-Decides}

-- the rows from one on
rows_from : (rows : List Write) (next : ℕ) (row : Write) → slice_get rows next ≡ Some row → drop next rows ≡ row ∷ drop (next + 1) rows
rows_from rows next row there =
    let after : suc next ≡ next + 1 = omega arith in
    drop-cons rows next row (slice_get_within rows next row there)
    ∙ ap (λ r. r ∷ drop (suc next) rows) (get_or_from_slice_get rows next row row there)
    ∙ ap (λ n. row ∷ drop n rows) after

-- a row outside the range leaves them
pub left-passed : (range : Range) (rows : List Write) (next : ℕ) (row : Write) → slice_get rows next ≡ Some row
    → is_within range row ≡ false → filter (is_within range) (drop next rows) ≡ filter (is_within range) (drop (next + 1) rows)
left-passed range rows next row there outside =
    ap (filter (is_within range)) (rows_from rows next row there) ∙ (rw outside refl)

-- and one within is the first of them
pub left-first : (range : Range) (rows : List Write) (next : ℕ) (row : Write) → slice_get rows next ≡ Some row
    → is_within range row ≡ true → filter (is_within range) (drop next rows) ≡ row ∷ filter (is_within range) (drop (next + 1) rows)
left-first range rows next row there inside =
    ap (filter (is_within range)) (rows_from rows next row there) ∙ (rw inside refl)

-- so with the shares of what is left
pub first_share : (shares left : List (Arc Write Global)) (popped : Option (Arc Write Global)) (row : Write) (rows : List Write)
    → map arc_value shares ≡ row ∷ rows → shares ≡ option_to_list popped ++ left → (0 < length shares → IsSome popped)
    → (map arc_value left ≡ rows) × (option_map arc_value popped ≡ Some row)
first_share shares left None row rows are split some =
    let many : length (map arc_value shares) ≡ length (row ∷ rows) = ap length are in
    let none : IsSome {T = Arc Write Global} None = some (omega (arith, many, length-map shares arc_value)) in
    absurd (cc)
first_share shares left (Some share) row rows are split some =
    let whole : arc_value share ∷ map arc_value left ≡ row ∷ rows = sym (ap (map arc_value) split) ∙ are in
    (cc, ap (λ w. Some w) (cc))

-- the core that a feed feeds
abbrev pub fed_core : FeedState → CoreId
fed_core feed = feed.core

-- no feed but the first is that of its core
alone : (first : FeedState) (feeds : List FeedState) (core : CoreId) → IsDistinct is_core (map fed_core (first ∷ feeds))
    → core ≡ first.core → All (λ (other : FeedState). is_feed_of core other ≡ false) feeds
alone first feeds core apart named k d below =
    let others = All-from_recursion (λ name. is_core first.core name ≡ false) (map fed_core feeds)
    (IsDistinct-head is_core first.core (map fed_core feeds) apart) in
    ap (λ name. is_core name (get_or feeds k d).core) named
    ∙ ap (is_core first.core) (sym (get_or-map fed_core feeds k d d.core below))
    ∙ others k d.core (omega (arith, below, length-map feeds fed_core))

-- the feed of a core is the only one
only : (feeds : List FeedState) (at : ℕ) (feed : FeedState) (core : CoreId) → IsDistinct is_core (map fed_core feeds)
    → slice_get feeds at ≡ Some feed → is_feed_of core feed ≡ true → filter (is_feed_of core) feeds ≡ feed ∷ []
only [] at feed core apart there is = absurd (none-some feed there)
only (first ∷ feeds) zero feed core apart there is =
    let same : first ≡ feed = same_Some first feed there in
    let here : is_feed_of core first ≡ true = ap (is_feed_of core) same ∙ is in
    let named : core ≡ first.core = (is_core-Decides core first.core).0 here in
    let none : filter (is_feed_of core) feeds ≡ [] = filter-none (is_feed_of core) feeds (alone first feeds core apart named) in
    rw here (ap (λ these. first ∷ these) none ∙ ap (λ (f : FeedState). f ∷ []) same)
only (first ∷ feeds) (suc at) feed core apart there is =
    let no = other (is_core core first.core) refl in
    rw no (only feeds at feed core (IsDistinct-tail is_core first.core (map fed_core feeds) apart) there is)
  where
    other : (b : Bool) → is_core core first.core ≡ b → is_core core first.core ≡ false
    other false e = e
    other true e =
        let not_it : is_feed_of core (get_or feeds at feed) ≡ false =
        alone first feeds core apart ((is_core-Decides core first.core).0 e) at feed (slice_get_within feeds at feed there) in
        let it : is_feed_of core (get_or feeds at feed) ≡ true =
        ap (is_feed_of core) (get_or_from_slice_get feeds at feed feed there) ∙ is in
        let both : true ≡ false = sym it ∙ not_it in
        absurd (cc)

-- so a core is still to be fed what its feed has left, and nothing where it has none
pub to_feed-of : (feeds : List FeedState) (at : ℕ) (feed : FeedState) (core : CoreId) → IsDistinct is_core (map fed_core feeds)
    → slice_get feeds at ≡ Some feed → is_feed_of core feed ≡ true → to_feed feeds core ≡ left_of feed
to_feed-of feeds at feed core apart there is =
    ap (flat_map left_of) (only feeds at feed core apart there is) ∙ append-nil (left_of feed)

pub to_feed-none : (feeds : List FeedState) (core : CoreId) → All (λ (feed : FeedState). is_feed_of core feed ≡ false) feeds
    → to_feed feeds core ≡ []
to_feed-none feeds core none = ap (flat_map left_of) (filter-none (is_feed_of core) feeds none)
