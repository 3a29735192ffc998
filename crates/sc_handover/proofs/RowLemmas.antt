-- Rows of a feed that are fed to its core, one after another.
use Rattle.std.proofs.Common.{◌≡◌, ℕ, suc, ◌+◌, ◌<◌, ◌≤◌, Bool, true, false, cond, if◌then◌else◌, List, [], ◌∷◌, ◌++◌, length, filter, set, take, drop, slice_get, Some, None, refl, sym, ap, ◌∙◌, subst, arith}
use Rattle.std.proofs.Math.Seq.{drop-cons, take-add}
use Rattle.std.proofs.lemmas.List.{drop-drop, set-set, set-get_or}
use Rattle.std.proofs.lemmas.List.Elements.{filter-append}
use Rattle.std.proofs.lemmas.Option.{cond_some, same_Some, slice_get_within, get_or_from_slice_get}
use Rattle.sc_record.specs.Writes.{Write}
use Rattle.sc_replica.specs.Core.{Core, fed_all}
use Rattle.sc_bucket.specs.Kept.{FeedState}
use Rattle.sc_snapshot.specs.Rows.{is_within}
use Rattle.sc_bucket.specs.Pending.{left_of}
use Rattle.sc_bucket.specs.Sound.{HasSpare, IsSound}
use Rattle.sc_bucket.specs.declared.bucket.Bucket.{Bucket}
use Rattle.sc_bucket.proofs.PendingLemmas.{length-pending}
use Rattle.sc_bucket.proofs.PlaceLemmas.{slice_get-set}
use Rattle.sc_bucket.proofs.SoundLemmas.{All-slice_get}
use Rattle.sc_handover.specs.Events.{HasSameRest}
use Rattle.sc_handover.specs.Feeding.{fed_core_at, IsFedAt, next_fed, after_rows, FeedsRows}
use Rattle.sc_handover.proofs.ChangedLemmas.{with_fed, HasSameRest-with_fed}
use Rattle.sc_handover.proofs.FedLemmas.{name-fed_all, fed_all-append, left-next, to_feed-at, IsSound-fed}

-- the next row of a feed
next-row : (feed : FeedState) (row : Write) → slice_get feed.rows feed.next ≡ Some row
    → next_fed 1 feed ≡ cond (is_within feed.range row) (row ∷ []) []
next-row feed row there =
    ap (λ rows. filter (is_within feed.range) (take 1 rows))
    (drop-cons feed.rows feed.next row (slice_get_within feed.rows feed.next row there)
    ∙ ap (λ r. r ∷ drop (suc feed.next) feed.rows) (get_or_from_slice_get feed.rows feed.next row row there))

-- a look at it says what is to be fed of it
pub looked-some : (feed : FeedState) (row write : Write) → slice_get feed.rows feed.next ≡ Some row
    → Some write ≡ (if is_within feed.range row then Some row else None) → next_fed 1 feed ≡ write ∷ []
looked-some feed row write there looked =
    let (within, same) = cond_some (is_within feed.range row) row write (sym looked) in
    next-row feed row there ∙ ap (λ b. cond b (row ∷ []) []) within ∙ ap (λ (w : Write). w ∷ []) same

pub looked-none : (feed : FeedState) (row : Write) → slice_get feed.rows feed.next ≡ Some row
    → None ≡ (if is_within feed.range row then Some row else None) → next_fed 1 feed ≡ []
looked-none feed row there looked =
    next-row feed row there ∙ ap (λ b. cond b (row ∷ []) []) (by (is_within feed.range row) looked)
  where
    by : (b : Bool) → None ≡ (if b then Some row else None) → b ≡ false
    by false none = refl
    by true none = absurd (cc)

-- the core has room for a row that is to be fed
pub room_to_feed : (b : Bucket) (feed_at core_at : ℕ) (feed : FeedState) (core : Core) (write : Write) → IsSound b
    → IsFedAt b (fed_core_at feed_at core_at feed core) → next_fed 1 feed ≡ write ∷ [] → 0 < core.cell_spare
room_to_feed b feed_at core_at feed core write sound is one =
    let spare = All-slice_get (HasSpare b.flight.messages b.feeds) b.replicas core_at core sound.room is.core_found
    in
    let left = ap length (to_feed-at b feed_at core_at feed core sound is ∙ left-next 1 feed
    ∙ ap (λ writes. writes ++ left_of (after_rows 1 feed)) one) in
    omega (arith, spare.cells, left, length-pending b.flight.messages b.feeds core)

-- one element in its own place changes nothing
set_itself : {X : Type 0} (xs : List X) (k : ℕ) (x : X) → slice_get xs k ≡ Some x → set xs k x ≡ xs
set_itself xs k x there = ap (set xs k) (sym (get_or_from_slice_get xs k x x there)) ∙ set-get_or xs k x

-- the feed was not changed by no row
pub FeedsRows-none : (b : Bucket) (feed_at core_at : ℕ) (feed : FeedState) (core : Core)
    → IsFedAt b (fed_core_at feed_at core_at feed core)
    → FeedsRows b (fed_core_at feed_at core_at feed core) 0 b
FeedsRows-none b feed_at core_at feed core is =
    let same : feed.next + 0 ≡ feed.next = omega arith in
    record {
      rest = HasSameRest-with_fed b b.feeds b.replicas;
      cores = sym (set_itself b.replicas core_at core is.core_found);
      feeds_are = sym (ap (λ (n : ℕ). set b.feeds feed_at (record feed { next = n })) same
          ∙ set_itself b.feeds feed_at feed is.feed_found);
    }

-- one row: the feed looked at it, and the core was fed what it is to be fed of it
pub FeedsRows-one : (b : Bucket) (feed_at core_at : ℕ) (feed : FeedState) (core : Core) (feeds : List FeedState)
    (cores : List Core) (writes : List Write) → next_fed 1 feed ≡ writes
    → feeds ≡ set b.feeds feed_at (after_rows 1 feed) → cores ≡ set b.replicas core_at (fed_all core writes)
    → FeedsRows b (fed_core_at feed_at core_at feed core) 1 (with_fed b feeds cores)
FeedsRows-one b feed_at core_at feed core feeds cores writes one moved fed = record {
  rest = HasSameRest-with_fed b feeds cores;
  cores = fed ∙ ap (λ (these : List Write). set b.replicas core_at (fed_all core these)) (sym one);
  feeds_are = moved;
}

-- where it was none the core stays
pub unfed : (b : Bucket) (feed_at core_at : ℕ) (feed : FeedState) (core : Core) → IsFedAt b (fed_core_at feed_at core_at feed core)
    → b.replicas ≡ set b.replicas core_at (fed_all core [])
unfed b feed_at core_at feed core is = sym (set_itself b.replicas core_at core is.core_found)

-- rows are left of a feed whose place has one with rows left
pub left_at : (b : Bucket) (feed_at core_at : ℕ) (feed : FeedState) (core : Core)
    → (other : FeedState) × (its : Core) × IsFedAt b (fed_core_at feed_at core_at other its) × (other.next < length other.rows)
    → IsFedAt b (fed_core_at feed_at core_at feed core) → feed.next < length feed.rows
left_at b feed_at core_at feed core (other, its, there, left) is =
    subst (λ (f : FeedState). f.next < length f.rows) (same_Some other feed (sym there.feed_found ∙ is.feed_found))
    left

-- it is sound once rows were fed
pub IsSound-rows : (b : Bucket) (feed_at core_at n : ℕ) (feed : FeedState) (core : Core) (feeds : List FeedState)
    (cores : List Core) → IsSound b → IsFedAt b (fed_core_at feed_at core_at feed core) → feed.next + n ≤ length feed.rows
    → FeedsRows b (fed_core_at feed_at core_at feed core) n (with_fed b feeds cores) → IsSound (with_fed b feeds cores)
IsSound-rows b feed_at core_at n feed core feeds cores sound is within fed =
    subst (λ (these : List FeedState). IsSound (with_fed b these cores)) (sym fed.feeds_are)
    (subst (λ (these : List Core). IsSound (with_fed b (set b.feeds feed_at (after_rows n feed)) these))
    (sym fed.cores)
    (IsSound-fed b feed_at core_at n feed core sound is within))

-- the feed and the core then
pub IsFedAt-rows : (old : Bucket) (feed_at core_at n : ℕ) (feed : FeedState) (core : Core) (new : Bucket)
    → IsFedAt old (fed_core_at feed_at core_at feed core) → FeedsRows old (fed_core_at feed_at core_at feed core) n new
    → IsFedAt new (fed_core_at feed_at core_at (after_rows n feed) (fed_all core (next_fed n feed)))
IsFedAt-rows old feed_at core_at n feed core new is fed = record {
  feed_found = ap (λ (feeds : List FeedState). slice_get feeds feed_at) fed.feeds_are
      ∙ slice_get-set old.feeds feed_at (after_rows n feed) (slice_get_within old.feeds feed_at feed is.feed_found);
  core_found = ap (λ (cores : List Core). slice_get cores core_at) fed.cores
      ∙ slice_get-set old.replicas core_at (fed_all core (next_fed n feed))
      (slice_get_within old.replicas core_at core is.core_found);
  core_is = name-fed_all core (next_fed n feed) ∙ is.core_is;
}

-- more rows are those before and those after
next-more : (n m : ℕ) (feed : FeedState) → next_fed (n + m) feed ≡ next_fed n feed ++ next_fed m (after_rows n feed)
next-more n m feed =
    ap (filter (is_within feed.range)) (take-add n m (drop feed.next feed.rows))
    ∙ filter-append (is_within feed.range) (take n (drop feed.next feed.rows))
    (take m (drop n (drop feed.next feed.rows)))
    ∙ ap (λ rows. next_fed n feed ++ filter (is_within feed.range) (take m rows)) (drop-drop n feed.next feed.rows)

-- nothing else was changed by two, where nothing else was by either
pub same_rest : (old mid new : Bucket) → HasSameRest old mid → HasSameRest mid new → HasSameRest old new
same_rest old mid new one other = record {
  name = record { first = other.name.first ∙ one.name.first; limit = other.name.limit ∙ one.name.limit; filed = other.name.filed ∙ one.name.filed };
  map_is = other.map_is ∙ one.map_is;
  entries = other.entries ∙ one.entries;
  phase_is = other.phase_is ∙ one.phase_is;
  messages = other.messages ∙ one.messages;
  searchers_are = other.searchers_are ∙ one.searchers_are;
}

-- so for rows that are fed one after another
pub FeedsRows-more : (old mid new : Bucket) (feed_at core_at n m : ℕ) (feed : FeedState) (core : Core)
    → FeedsRows old (fed_core_at feed_at core_at feed core) n mid
    → FeedsRows mid (fed_core_at feed_at core_at (after_rows n feed) (fed_all core (next_fed n feed))) m new
    → FeedsRows old (fed_core_at feed_at core_at feed core) (n + m) new
FeedsRows-more old mid new feed_at core_at n m feed core one other =
    let first : Core = fed_all core (next_fed n feed) in
    let last : Core = fed_all first (next_fed m (after_rows n feed)) in
    let all : last ≡ fed_all core (next_fed (n + m) feed) =
    sym (fed_all-append core (next_fed n feed) (next_fed m (after_rows n feed)))
    ∙ ap (fed_all core) (sym (next-more n m feed)) in
    let next : feed.next + n + m ≡ feed.next + (n + m) = omega arith in
    record {
      rest = same_rest old mid new one.rest other.rest;
      cores = other.cores ∙ ap (λ (cores : List Core). set cores core_at last) one.cores
          ∙ set-set old.replicas core_at first last ∙ ap (set old.replicas core_at) all;
      feeds_are = other.feeds_are
          ∙ ap (λ (feeds : List FeedState). set feeds feed_at (after_rows m (after_rows n feed))) one.feeds_are
          ∙ set-set old.feeds feed_at (after_rows n feed) (after_rows m (after_rows n feed))
          ∙ ap (λ (k : ℕ). set old.feeds feed_at (record feed { next = k })) next;
    }
