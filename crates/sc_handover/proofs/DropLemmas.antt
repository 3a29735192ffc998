-- A bucket without an inactive slice owes one entry less, and is sound.
use Rattle.std.proofs.Common.{◌≡◌, ◌≢◌, ◌∙◌, ◌+◌, ◌≤◌, Bool, true, false, cond, not, eqb, List, [], ◌∷◌, ◌++◌, map, filter, None, All, Contains, refl, sym, ap, subst, arith}
use Rattle.std.specs.List.{IsDistinct}
use Rattle.std.proofs.lemmas.Bool.{eq-eqb, eqb-true, ne_eqb}
use Rattle.std.proofs.lemmas.List.Elements.{All-contains, All-contains_itself, All-head, All-tail, All-weaker}
use Rattle.sc_record.specs.Names.{key_of_core, is_core}
use Rattle.sc_record.specs.declared.slice.SliceId.{SliceId}
use Rattle.sc_record.specs.declared.slice.CoreId.{CoreId}
use Rattle.sc_record.specs.declared.entry.Entry.TheVariants as entry
use Rattle.sc_cluster.specs.declared.slice.Slice.{Slice}
use Rattle.sc_cluster.specs.Map.{IsMap}
use Rattle.sc_cluster.specs.Slices.{is_active_state, is_active, is_forming}
use Rattle.sc_cluster.specs.Changes.{Change, IsInactive}
use Rattle.sc_cluster.proofs.LeaderLemmas.{same_from_id}
use Rattle.sc_cluster.proofs.ListLemmas.{none_from_filter, Contains-filter, Contains-from_filter}
use Rattle.sc_cluster.proofs.MapLemmas.{dropped_is_idle}
use Rattle.sc_cluster.proofs.StateLemmas.{is_other}
use Rattle.sc_journal.specs.Splits.{owed}
use Rattle.sc_journal.specs.Legal.{MayBeDropped}
use Rattle.sc_journal.proofs.DownLemmas.{is_down-push_dropped}
use Rattle.sc_replica.specs.Core.{Core}
use Rattle.sc_journal.proofs.OwedLemmas.{owed-push_dropped}
use Rattle.sc_journal.proofs.SeatLemmas.{seats-push_dropped}
use Rattle.sc_journal.proofs.SplitLemmas.{open_split-push}
use Rattle.sc_bucket.specs.Kept.{FeedState}
use Rattle.sc_replicas.specs.Cores.{is_of_one}
use Rattle.sc_bucket.specs.Pending.{to_feed}
use Rattle.sc_bucket.specs.Searchers.{ArePrepared}
use Rattle.sc_bucket.specs.Sound.{may_catch_up, IsFeed, IsIdle, IsInPhase, IsSound}
use Rattle.sc_bucket.specs.declared.bucket.Bucket.{Bucket}
use Rattle.sc_bucket.specs.declared.phase.Phase.TheVariants as phases
use Rattle.sc_bucket.proofs.AcceptLemmas.{bucket_has_map}
use Rattle.sc_bucket.proofs.FeedLemmas.{fed_core}
use Rattle.sc_handover.proofs.CaughtUpLemmas.{catching_follows}
use Rattle.sc_handover.specs.Conditions.{CanDrop}
use Rattle.sc_handover.proofs.KeptLemmas.{is_kept, same_number, is_of_one-there, slice_of_one}
use Rattle.sc_handover.proofs.NotedLemmas.{TakesOut}
use Rattle.sc_handover.proofs.LeftOutLemmas.{LeavesFeeds, IsSound-taken_out}

-- where no split is open
pub is_idle : (b : Bucket) → IsSound b → b.phase ≡ phases.Idle → IsIdle b
is_idle b sound idle = subst (IsInPhase b) idle sound.phase

-- no searchers are ready for a switch
pub no_spares : (b : Bucket) → IsSound b → b.phase ≡ phases.Idle → b.spares ≡ None
no_spares b sound idle = subst (λ phase. ArePrepared phase b.map b.searchers b.spares) idle sound.prepared

-- the slice may be dropped
may_drop : (b : Bucket) (slice : SliceId) → IsSound b → CanDrop b slice → MayBeDropped b.first b.journal.entries slice
may_drop b slice sound can = record {
  idle = (is_idle b sound can.0).idle;
  inactive = subst (λ slices. IsInactive slices slice) sound.journal.map_is can.1;
}

-- the entry that drops it is owed
owed_dropped : (b : Bucket) (slice : SliceId) → IsSound b → CanDrop b slice
    → owed b.first (b.journal.entries ++ entry.Dropped slice ∷ []) + 1 ≡ owed b.first b.journal.entries
owed_dropped b slice sound can =
    owed-push_dropped b.first b.journal.entries slice
    (subst IsMap sound.journal.map_is (bucket_has_map b sound.journal)) (may_drop b slice sound can).inactive

-- and has its room
pub owes_dropped : (b : Bucket) (slice : SliceId) → IsSound b → CanDrop b slice → (1 ≤ b.owed) × (1 ≤ b.journal.room)
owes_dropped b slice sound can =
    let less = owed_dropped b slice sound can in
    let journal = sound.journal in
    (omega (arith, less, journal.owed_is), omega (arith, less, journal.owed_is, journal.room))

-- a filter of what another left, which keeps all that passes the first
pub filter-left : {A : Type 0} (p q : A → Bool) (xs : List A) → All (λ x. p x ≡ true → q x ≡ true) xs
    → filter p (filter q xs) ≡ filter p xs
filter-left p q [] all = refl
filter-left p q (x ∷ xs) all =
    by (q x) refl (p x) refl (filter-left p q xs (All-tail (λ y. p y ≡ true → q y ≡ true) x xs all)) where
      by : (t : Bool) → q x ≡ t → (u : Bool) → p x ≡ u → filter p (filter q xs) ≡ filter p xs
          → filter p (cond t (x ∷ filter q xs) (filter q xs)) ≡ cond u (x ∷ filter p xs) (filter p xs)
      by true is true passes rest = rw passes (ap (λ ys. x ∷ ys) rest)
      by true is false fails rest = rw fails rest
      by false is true passes rest =
          let both : true ≡ false = sym (All-head (λ y. p y ≡ true → q y ≡ true) x xs all passes) ∙ is in absurd (cc)
      by false is false fails rest = rest

-- an active slice is another than the one that is dropped
other_than_dropped : (slices : List Slice) (dropped : SliceId) (one : Slice) → IsMap slices → IsInactive slices dropped
    → Contains slices one → is_active one ≡ true → is_other dropped one ≡ true
other_than_dropped slices dropped one is_map (slice, there, named, inactive) inside active =
    by (eqb one.id.0 dropped.0) refl
  where
    by : (b : Bool) → eqb one.id.0 dropped.0 ≡ b → is_other dropped one ≡ true
    by false other = ap not other
    by true same =
        let id : one.id ≡ dropped = same_number one.id dropped (eqb-true one.id.0 dropped.0 same) in
        let alike : one ≡ slice = same_from_id slices one slice is_map inside there (id ∙ sym named) in
        let both : true ≡ false = sym active ∙ ap is_active alike ∙ ap is_active_state inactive in
        absurd (cc)

-- so the active slices stay
active-other : (slices : List Slice) (dropped : SliceId) → IsMap slices → IsInactive slices dropped
    → filter is_active (filter (is_other dropped) slices) ≡ filter is_active slices
active-other slices dropped is_map (slice, there, named, inactive) =
    filter-left is_active (is_other dropped) slices
    (All-weaker (Contains slices) (λ (s : Slice). is_active s ≡ true → is_other dropped s ≡ true)
    (λ one inside. other_than_dropped slices dropped one is_map (slice, there, named, inactive) inside) slices
    (All-contains_itself slices))

-- a core of a slice that stays is of another
of_other : (slices : List Slice) (dropped : SliceId) (name : CoreId)
    → is_of_one (filter (is_other dropped) slices) name ≡ true → name.slice.0 ≢ dropped.0
of_other slices dropped name kept same =
    let (slice, there, named) = slice_of_one (filter (is_other dropped) slices) name kept in
    let other : not (eqb slice.id.0 dropped.0) ≡ true = (Contains-from_filter (is_other dropped) slices slice there).1 in
    let own : eqb slice.id.0 dropped.0 ≡ true =
    eq-eqb slice.id.0 dropped.0 (ap (λ (id : SliceId). id.0) named ∙ same) in
    let both : false ≡ true = ap not (sym own) ∙ other in
    absurd (cc)

-- each feed is of a core of an active slice, and both stay
IsFeed-dropped : (old : Bucket) (slice : SliceId) (new : Bucket) (feed : FeedState) → IsSound old → CanDrop old slice
    → TakesOut old (entry.Dropped slice) (Change.Dropped slice) 1 new → new.phase ≡ old.phase → IsFeed old feed
    → IsFeed new feed
IsFeed-dropped old slice new feed sound can takes phase is = record {
  slice = is.slice;
  there = there;
  catches_up = ap (λ p. may_catch_up p is.slice feed.core) phase ∙ is.catches_up;
  of_slice = is.of_slice;
  range_is = is.range_is;
  core = is.core;
  core_there = subst (λ (cores : List Core). Contains cores is.core) (sym takes.loses.cores)
      (Contains-filter (is_kept new.map) old.replicas is.core is.core_there kept);
  core_is = is.core_is;
  buffering = is.buffering;
  within = is.within;
} where
  settled : is_forming is.slice ≡ false
  settled =
      All-contains (λ (s : Slice). is_forming s ≡ false) old.map is.slice
      (none_from_filter is_forming old.map (is_idle old sound can.0).whole) is.there

  there : Contains new.map is.slice
  there =
      subst (λ (slices : List Slice). Contains slices is.slice) (sym takes.loses.map_is)
      (Contains-filter (is_other slice) old.map is.slice is.there
      (other_than_dropped old.map slice is.slice (bucket_has_map old sound.journal) can.1 is.there
      (catching_follows old.phase is.slice feed.core settled is.catches_up)))

  kept : is_kept new.map is.core ≡ true
  kept =
      is_of_one-there new.map is.slice is.core.core there
      (sym is.of_slice ∙ ap (λ (name : CoreId). name.slice) (sym is.core_is))

LeavesFeeds-dropped : (old : Bucket) (slice : SliceId) (new : Bucket) → IsSound old → CanDrop old slice
    → TakesOut old (entry.Dropped slice) (Change.Dropped slice) 1 new → new.phase ≡ old.phase → new.feeds ≡ old.feeds
    → LeavesFeeds old new
LeavesFeeds-dropped old slice new sound can takes phase feeds = record {
  free = λ one name there caught_up. ap (λ p. may_catch_up p one name) (sym phase) ∙ caught_up;
  fed = λ name kept. ap (λ (these : List FeedState). to_feed these name) feeds;
  feeds = record {
    each = subst (All (IsFeed new)) (sym feeds)
        (All-weaker (IsFeed old) (IsFeed new) (λ feed. IsFeed-dropped old slice new feed sound can takes phase) old.feeds
        sound.feeds.each);
    once = subst (λ (these : List FeedState). IsDistinct is_core (map fed_core these)) (sym feeds) sound.feeds.once;
  };
}

-- and the bucket is sound
pub IsSound-dropped : (old : Bucket) (slice : SliceId) (new : Bucket) → IsSound old → CanDrop old slice
    → TakesOut old (entry.Dropped slice) (Change.Dropped slice) 1 new → new.phase ≡ old.phase → new.feeds ≡ old.feeds
    → IsSound new
IsSound-dropped old slice new sound can takes phase feeds =
    let idle = is_idle old sound can.0 in
    IsSound-taken_out old (entry.Dropped slice) (Change.Dropped slice) 1 new sound
    (record {
      may = may_drop old slice sound can;
      change_is = refl;
      no_write = refl;
      no_commit = refl;
      settles_nothing = λ place. refl;
      some = omega arith;
      owed_less = owed_dropped old slice sound can;
      among = λ one there. (Contains-from_filter (is_other slice) old.map one there).0;
      same_active = active-other old.map slice (bucket_has_map old sound.journal) can.1;
      same = λ name kept.
          let other = of_other old.map slice name kept in
          record {
            down = is_down-push_dropped old.journal.entries slice (key_of_core name) other;
            number = ap (λ core_in. core_in name.replica)
                (seats-push_dropped old.journal.entries slice name.slice false
                (ne_eqb slice.0 name.slice.0 (λ own. other (sym own))));
          };
      idle = open_split-push old.journal.entries (entry.Dropped slice) ∙ idle.idle;
      whole = dropped_is_idle old.map slice idle.whole;
    }) takes (phase ∙ can.0) (LeavesFeeds-dropped old slice new sound can takes phase feeds)
