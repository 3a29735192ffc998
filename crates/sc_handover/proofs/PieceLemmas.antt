-- A piece of a feed: the next 64 rows, or all that are left.
use Rattle.std.proofs.Common.{◌≡◌, ◌≢◌, eqb, ℕ, suc, ◌+◌, ◌-◌, ◌≤◌, Bool, true, false, nat_le, if◌then◌else◌, min, List, [], ◌++◌, length, filter, set, take, drop, slice_get, Option, Some, All, MatchOption, sym, ap, ◌∙◌, subst, arith, length-drop}
use Rattle.std.specs.List.{remove}
use Rattle.std.proofs.Math.ListN.{drop_of_length-le}
use Rattle.std.proofs.lemmas.Bool.{eq-eqb, le-leb, lt-leb, ne_eqb}
use Rattle.std.proofs.lemmas.List.{drop-set-lt, take-set, take_min}
use Rattle.std.proofs.lemmas.Option.{same_Some}
use Rattle.sc_record.specs.declared.slice.CoreId.{CoreId}
use Rattle.sc_record.specs.Writes.{Write}
use Rattle.sc_replica.specs.Core.{Core, fed_all}
use Rattle.sc_bucket.specs.Kept.{FeedState}
use Rattle.sc_snapshot.specs.Rows.{is_within}
use Rattle.sc_bucket.specs.Pending.{is_feed_of, left_of}
use Rattle.sc_bucket.specs.declared.bucket.Bucket.{Bucket}
use Rattle.sc_replicas.proofs.CoreLemmas.{is_core-Decides, IsCoreFound}
use Rattle.sc_bucket.proofs.DeliverLemmas.{place_of_core}
use Rattle.sc_handover.specs.Made.{feed_limit, piece_of, moved_on}
use Rattle.sc_handover.specs.Events.{FeedsPiece}
use Rattle.sc_handover.specs.Feeding.{fed_core_at, IsFedAt, next_fed, after_rows, FeedsRows}
use Rattle.sc_handover.proofs.ChangedLemmas.{with_fed, HasSameRest-with_fed}
use Rattle.sc_handover.proofs.RowLemmas.{same_rest, FeedsRows-none, FeedsRows-more, IsFedAt-rows}

-- what a search for a core's feed finds
abbrev pub IsFeedFound : List FeedState → CoreId → Option ℕ → Type 0
IsFeedFound feeds name found =
    MatchOption found (All (λ (feed : FeedState). is_feed_of name feed ≡ false) feeds)
    (λ at. (feed : FeedState) × (slice_get feeds at ≡ Some feed) × (is_feed_of name feed ≡ true))

-- a piece for the core of this name is under way: of the feed and the core at these places n rows of so many were fed
pub record IsUnderWay (old : Bucket) (name : CoreId) (feed_at core_at count n : ℕ) (new : Bucket) : Type 0 where
  pub feed : FeedState
  pub core : Core
  pub is : IsFedAt old (fed_core_at feed_at core_at feed core)
  pub named : feed.core ≡ name
  pub count_is : count ≡ min (length feed.rows - feed.next) 64
  pub fed : FeedsRows old (fed_core_at feed_at core_at feed core) n new
  pub at : IsFedAt new (fed_core_at feed_at core_at (after_rows n feed) (fed_all core (next_fed n feed)))

-- how many rows are left of the feed at a place
rows_left : (feeds : List FeedState) (at left : ℕ) (feed other : FeedState) → slice_get feeds at ≡ Some feed
    → slice_get feeds at ≡ Some other → left ≡ length other.rows - other.next → left ≡ length feed.rows - feed.next
rows_left feeds at left feed other there other_there is =
    is ∙ ap (λ (f : FeedState). length f.rows - f.next) (same_Some other feed (sym other_there ∙ there))

-- it begins with no row
pub under_way : (b : Bucket) (name : CoreId) (feed_found core_found : Option ℕ) (feed_at core_at count left : ℕ)
    (other : FeedState)
    → IsFeedFound b.feeds name feed_found → feed_found ≡ Some feed_at → IsCoreFound b.replicas name core_found
    → core_found ≡ Some core_at → slice_get b.feeds feed_at ≡ Some other → left ≡ length other.rows - other.next
    → count ≡ min left 64 → IsUnderWay b name feed_at core_at count 0 b
under_way b name feed_found core_found feed_at core_at count left other is_feed feed_is is_one core_is there left_is
    count_is =
    let (feed, found, of_name) = subst (IsFeedFound b.feeds name) feed_is is_feed in
    let (core, core_there, named) = place_of_core b.replicas name core_found core_at is_one core_is in
    let feeds_it : name ≡ feed.core = (is_core-Decides name feed.core).0 of_name in
    let is_it : name ≡ core.core = (is_core-Decides name core.core).0 named in
    let is : IsFedAt b (fed_core_at feed_at core_at feed core) =
    record { feed_found = found; core_found = core_there; core_is = sym is_it ∙ feeds_it } in
    let fed : FeedsRows b (fed_core_at feed_at core_at feed core) 0 b = FeedsRows-none b feed_at core_at feed core is in
    record {
      feed = feed;
      core = core;
      is = is;
      named = sym feeds_it;
      count_is = count_is ∙ ap (λ (k : ℕ). min k 64) (rows_left b.feeds feed_at left feed other found there left_is);
      fed = fed;
      at = IsFedAt-rows b feed_at core_at 0 feed core b is fed;
    }

-- and goes on by one row
pub under_way_more : (old mid new : Bucket) (name : CoreId) (feed_at core_at count n : ℕ)
    → IsUnderWay old name feed_at core_at count n mid
    → ((feed : FeedState) (core : Core) → IsFedAt mid (fed_core_at feed_at core_at feed core)
    → FeedsRows mid (fed_core_at feed_at core_at feed core) 1 new)
    → IsUnderWay old name feed_at core_at count (n + 1) new
under_way_more old mid new name feed_at core_at count n way next =
    let looked : FeedState = after_rows n way.feed in
    let before : Core = fed_all way.core (next_fed n way.feed) in
    let fed : FeedsRows old (fed_core_at feed_at core_at way.feed way.core) (n + 1) new =
    FeedsRows-more old mid new feed_at core_at n 1 way.feed way.core way.fed (next looked before way.at) in
    record {
      feed = way.feed;
      core = way.core;
      is = way.is;
      named = way.named;
      count_is = way.count_is;
      fed = fed;
      at = IsFedAt-rows old feed_at core_at (n + 1) way.feed way.core new way.is fed;
    }

-- how many rows are left then
pub left_then : (old mid : Bucket) (name : CoreId) (feed_at core_at count n left : ℕ) (other : FeedState)
    → (way : IsUnderWay old name feed_at core_at count n mid) → slice_get mid.feeds feed_at ≡ Some other
    → left ≡ length other.rows - other.next → left ≡ length way.feed.rows - (way.feed.next + n)
left_then old mid name feed_at core_at count n left other way there is =
    rows_left mid.feeds feed_at left (after_rows n way.feed) other way.at.feed_found there is

-- a piece is of the next 64 rows, or of all that are left
next-piece : (feed : FeedState) (n : ℕ) → n ≡ min (length feed.rows - feed.next) 64 → next_fed n feed ≡ piece_of feed
unfolding feed_limit
next-piece feed n many =
    let rows : List Write = drop feed.next feed.rows in
    let same : n ≡ min 64 (length rows) = omega (arith, length-drop feed.next feed.rows) in
    ap (λ k. filter (is_within feed.range) (take k rows)) same ∙ ap (filter (is_within feed.range)) (take_min 64 rows)

-- so the core was fed a piece
fed_piece : (old mid : Bucket) (feed_at core_at n : ℕ) (feed : FeedState) (core : Core)
    → FeedsRows old (fed_core_at feed_at core_at feed core) n mid → n ≡ min (length feed.rows - feed.next) 64
    → mid.replicas ≡ set old.replicas core_at (fed_all core (piece_of feed))
fed_piece old mid feed_at core_at n feed core fed many =
    fed.cores ∙ ap (λ (these : List Write). set old.replicas core_at (fed_all core these)) (next-piece feed n many)

-- nothing is left of a feed that looked at all rows
pub none_left : (feed : FeedState) (n : ℕ) → length feed.rows ≤ feed.next + n → left_of (after_rows n feed) ≡ []
none_left feed n all = ap (filter (is_within feed.range)) (drop_of_length-le feed.rows all)

-- all rows of a piece were fed, and its feed is gone or moved on
FeedsPiece-whole : (old mid : Bucket) (name : CoreId) (feed_at core_at count n : ℕ) (feeds : List FeedState)
    (is_done : Bool) → (way : IsUnderWay old name feed_at core_at count n mid) → n ≡ count
    → is_done ≡ nat_le (length way.feed.rows) (way.feed.next + 64)
    → feeds ≡ (if is_done then remove old.feeds feed_at else set old.feeds feed_at (moved_on way.feed))
    → FeedsPiece old name is_done (with_fed mid feeds mid.replicas)
unfolding feed_limit
FeedsPiece-whole old mid name feed_at core_at count n feeds is_done way all done feeds_are = record {
  rest = same_rest old mid (with_fed mid feeds mid.replicas) way.fed.rest (HasSameRest-with_fed mid feeds mid.replicas);
  feed_at = feed_at;
  feed = way.feed;
  feed_found = way.is.feed_found;
  feed_is = way.named;
  changed = record {
    core_at = core_at;
    core = way.core;
    core_found = way.is.core_found;
    core_is = way.is.core_is ∙ way.named;
    cores = fed_piece old mid feed_at core_at n way.feed way.core way.fed (all ∙ way.count_is);
  };
  done = done;
  feeds_are = feeds_are;
}

-- no row is left after it, and its feed is taken away
pub FeedsPiece-ended : (old mid : Bucket) (name : CoreId) (feed_at core_at count n left : ℕ) (other : FeedState)
    (feeds : List FeedState) → IsUnderWay old name feed_at core_at count n mid → n ≡ count
    → slice_get mid.feeds feed_at ≡ Some other → left ≡ length other.rows - other.next → left ≡ 0
    → feeds ≡ remove mid.feeds feed_at → FeedsPiece old name (eqb left 0) (with_fed mid feeds mid.replicas)
FeedsPiece-ended old mid name feed_at core_at count n left other feeds way all there left_is none removed =
    let looked : FeedState = after_rows n way.feed in
    let still = left_then old mid name feed_at core_at count n left other way there left_is in
    subst (λ (test : Bool). FeedsPiece old name test (with_fed mid feeds mid.replicas)) (sym (eq-eqb left 0 none))
    (FeedsPiece-whole old mid name feed_at core_at count n feeds true way all
    (sym (le-leb (length way.feed.rows) (way.feed.next + 64) (omega (arith, way.count_is, all, still, none))))
    (removed ∙ ap (λ (these : List FeedState). remove these feed_at) way.fed.feeds_are
    ∙ ap (λ start. start ++ drop (suc feed_at) (set old.feeds feed_at looked)) (take-set old.feeds feed_at looked)
    ∙ ap (λ end. take feed_at old.feeds ++ end)
    (drop-set-lt (suc feed_at) old.feeds feed_at looked (omega arith))))

-- rows are left after it
pub FeedsPiece-goes_on : (old mid : Bucket) (name : CoreId) (feed_at core_at count n left : ℕ) (other : FeedState)
    → IsUnderWay old name feed_at core_at count n mid → n ≡ count → slice_get mid.feeds feed_at ≡ Some other
    → left ≡ length other.rows - other.next → left ≢ 0 → FeedsPiece old name (eqb left 0) mid
unfolding feed_limit
FeedsPiece-goes_on old mid name feed_at core_at count n left other way all there left_is some =
    let still = left_then old mid name feed_at core_at count n left other way there left_is in
    let whole : n ≡ 64 = omega (arith, way.count_is, all, still, some) in
    subst (λ (test : Bool). FeedsPiece old name test mid) (sym (ne_eqb left 0 some))
    (FeedsPiece-whole old mid name feed_at core_at count n mid.feeds false way all
    (sym (lt-leb (length way.feed.rows) (way.feed.next + 64) (omega (arith, whole, still, some))))
    (way.fed.feeds_are ∙ ap (λ (k : ℕ). set old.feeds feed_at (after_rows k way.feed)) whole))
