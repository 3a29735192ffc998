-- A bucket whose split is given up owes less: the end of the split, the drop of its parent, and an entry of each follower of its
-- subs. It is sound.
use Rattle.std.proofs.Common.{◌≡◌, ◌∙◌, ℕ, ◌+◌, Bool, true, false, List, [], ◌∷◌, ◌++◌, ◌≤◌, Some, refl, sym, ap, subst, arith}
use Rattle.std.proofs.lemmas.List.Elements.{All-contains, All-weaker}
use Rattle.std.proofs.lemmas.Option.{none-some, same_Some}
use Rattle.sc_record.specs.Names.{key_of_core}
use Rattle.sc_record.specs.declared.slice.SliceId.{SliceId}
use Rattle.sc_record.specs.declared.slice.CoreId.{CoreId}
use Rattle.sc_record.specs.declared.entry.Entry.TheVariants as entry
use Rattle.sc_cluster.specs.declared.slice.Slice.{Slice}
use Rattle.sc_cluster.specs.Map.{IsMap}
use Rattle.sc_cluster.specs.Slices.{is_active, is_forming, forming}
use Rattle.sc_cluster.specs.Changes.{Change}
use Rattle.sc_cluster.proofs.LeaderLemmas.{same_from_id}
use Rattle.sc_cluster.proofs.ListLemmas.{filter-filter, none_from_filter, Contains-from_filter}
use Rattle.sc_cluster.proofs.MapLemmas.{failed_is_idle}
use Rattle.sc_cluster.proofs.StateLemmas.{is_settled}
use Rattle.sc_journal.specs.Splits.{owed}
use Rattle.sc_journal.proofs.DownLemmas.{LeavesCores-failed, is_down-left}
use Rattle.sc_journal.proofs.OwedLemmas.{owed-push_failed}
use Rattle.sc_journal.proofs.SeatLemmas.{seats-left}
use Rattle.sc_journal.proofs.SplitLemmas.{open_split-push}
use Rattle.sc_bucket.specs.Kept.{FeedState}
use Rattle.sc_replicas.specs.Cores.{is_of_one}
use Rattle.sc_bucket.specs.Pending.{is_feed_of, to_feed}
use Rattle.sc_bucket.specs.Sound.{is_idle, IsFeed, IsSplitOpen, IsInPhase, IsSound}
use Rattle.sc_bucket.specs.declared.bucket.Bucket.{Bucket}
use Rattle.sc_bucket.specs.declared.phase.Phase.{Phase}
use Rattle.sc_bucket.specs.declared.phase.Phase.TheVariants as phases
use Rattle.sc_bucket.proofs.AcceptLemmas.{bucket_has_map}
use Rattle.sc_replicas.proofs.CoreLemmas.{is_core-Decides}
use Rattle.sc_bucket.proofs.FeedLemmas.{to_feed-none}
use Rattle.sc_handover.specs.Conditions.{split_of, CanAbort}
use Rattle.sc_handover.proofs.CountLemmas.{count_followers}
use Rattle.sc_handover.proofs.NotedLemmas.{is_settled-active, TakesOut}
use Rattle.sc_bucket.proofs.CatchUpLemmas.{only_forming}
use Rattle.sc_handover.proofs.KeptLemmas.{AreSome, slice_of_one}
use Rattle.sc_handover.proofs.NoFeedLemmas.{AreFeeds-none}
use Rattle.sc_handover.proofs.LeftOutLemmas.{LeavesFeeds, IsSound-taken_out}

-- the split of the parent is open
pub is_open : (b : Bucket) (parent : SliceId) → IsSound b → CanAbort b parent → IsSplitOpen b parent
is_open b parent sound can = by b.phase can sound.phase where
  by : (phase : Phase) → split_of phase ≡ Some parent → IsInPhase b phase → IsSplitOpen b parent
  by phases.Idle none is = absurd (none-some parent none)
  by (phases.Building building) some is = subst (IsSplitOpen b) (same_Some building parent some) is
  by (phases.Recovering recovering) some is = subst (IsSplitOpen b) (same_Some recovering parent some) is.0

-- how many followers its subs are to have
abbrev pub followers_of_subs : Bucket → ℕ
followers_of_subs b = count_followers (forming b.map)

-- so many entries are owed of it
owed_failed : (b : Bucket) (parent : SliceId) → IsSound b → CanAbort b parent
    → owed b.first (b.journal.entries ++ entry.Failed parent ∷ []) + (2 + followers_of_subs b) ≡ owed b.first b.journal.entries
owed_failed b parent sound can =
    let journal = sound.journal in
    let less = owed-push_failed b.first b.journal.entries parent journal.legal
    (subst IsMap journal.map_is (bucket_has_map b journal)) (is_open b parent sound can).begun in
    let same = ap (λ (slices : List Slice). count_followers (forming slices)) journal.map_is in
    omega (arith, less, same)

-- and have their room
pub owes_failed : (b : Bucket) (parent : SliceId) → IsSound b → CanAbort b parent
    → (2 + followers_of_subs b ≤ b.owed) × (1 ≤ b.journal.room)
owes_failed b parent sound can =
    let less = owed_failed b parent sound can in
    let journal = sound.journal in
    (omega (arith, less, journal.owed_is), omega (arith, less, journal.owed_is, journal.room))

-- no split is idle that is open
not_idle : (phase : Phase) (parent : SliceId) → split_of phase ≡ Some parent → is_idle phase ≡ false
not_idle phases.Idle parent none = absurd (none-some parent none)
not_idle (phases.Building building) parent some = refl
not_idle (phases.Recovering recovering) parent some = refl

-- so a core of a slice that no split is making is not fed
unfed : (b : Bucket) (slices : List Slice) (name : CoreId) → IsSound b → is_idle b.phase ≡ false → AreSome slices b.map
    → forming slices ≡ [] → is_of_one slices name ≡ true → to_feed b.feeds name ≡ []
unfed b slices name sound opened some none kept =
    to_feed-none b.feeds name
    (All-weaker (IsFeed b) (λ feed. is_feed_of name feed ≡ false) (λ feed is. by feed is (is_feed_of name feed) refl)
    b.feeds sound.feeds.each)
  where
    by : (feed : FeedState) → IsFeed b feed → (own : Bool) → is_feed_of name feed ≡ own → is_feed_of name feed ≡ false
    by feed is false other = other
    by feed is true own =
        let (slice, there, named) = slice_of_one slices name kept in
        let alike : slice.id ≡ is.slice.id =
        named ∙ ap (λ (n : CoreId). n.slice) ((is_core-Decides name feed.core).0 own) ∙ is.of_slice in
        let same : slice ≡ is.slice =
        same_from_id b.map slice is.slice (bucket_has_map b sound.journal) (some slice there) is.there alike in
        let settled : is_forming slice ≡ false =
        All-contains (λ (s : Slice). is_forming s ≡ false) slices slice (none_from_filter is_forming slices none) there in
        let forms : is_forming is.slice ≡ true =
        sym (only_forming b.phase is.slice feed.core opened) ∙ is.catches_up in
        let both : true ≡ false = sym forms ∙ ap is_forming (sym same) ∙ settled in
        absurd (cc)

-- and what becomes of the feeds is as it has to be
LeavesFeeds-aborted : (old : Bucket) (parent : SliceId) (new : Bucket) → IsSound old → CanAbort old parent
    → TakesOut old (entry.Failed parent) (Change.Failed parent) (2 + followers_of_subs old) new → new.feeds ≡ []
    → LeavesFeeds old new
LeavesFeeds-aborted old parent new sound can takes feeds = record {
  free = λ slice name there caught_up.
      only_forming old.phase slice name opened
      ∙ All-contains (λ (s : Slice). is_forming s ≡ false) new.map slice (none_from_filter is_forming new.map whole) there;
  fed = λ name kept. ap (λ (these : List FeedState). to_feed these name) feeds
      ∙ sym (unfed old new.map name sound opened some whole kept);
  feeds = AreFeeds-none new feeds;
} where
  opened : is_idle old.phase ≡ false
  opened = not_idle old.phase parent can

  whole : forming new.map ≡ []
  whole = ap forming takes.loses.map_is ∙ failed_is_idle old.map parent

  some : AreSome new.map old.map
  some =
      subst (λ slices. AreSome slices old.map) (sym takes.loses.map_is)
      (λ slice there. (Contains-from_filter is_settled old.map slice there).0)

-- and the bucket is sound
pub IsSound-aborted : (old : Bucket) (parent : SliceId) (new : Bucket) → IsSound old → CanAbort old parent
    → TakesOut old (entry.Failed parent) (Change.Failed parent) (2 + followers_of_subs old) new → new.phase ≡ phases.Idle → new.feeds ≡ []
    → IsSound new
IsSound-aborted old parent new sound can takes idle feeds =
    let opened = is_open old parent sound can in
    IsSound-taken_out old (entry.Failed parent) (Change.Failed parent) (2 + followers_of_subs old) new sound
    (record {
      may = opened.begun;
      change_is = refl;
      no_write = refl;
      no_commit = refl;
      settles_nothing = λ place. refl;
      some = omega arith;
      owed_less = owed_failed old parent sound can;
      among = λ slice there. (Contains-from_filter is_settled old.map slice there).0;
      same_active = filter-filter is_active is_settled is_settled-active old.map;
      same = λ name kept. record {
        down = is_down-left old.journal.entries (entry.Failed parent) (key_of_core name) (LeavesCores-failed parent);
        number = ap (λ core_in. core_in name.replica)
            (seats-left old.journal.entries (entry.Failed parent) name.slice (λ _ _. refl));
      };
      idle = open_split-push old.journal.entries (entry.Failed parent);
      whole = failed_is_idle old.map parent;
    }) takes idle (LeavesFeeds-aborted old parent new sound can takes feeds)
