-- A bucket of such parts is sound.
use Rattle.std.proofs.Common.{◌≡◌, ◌∙◌, ◌≤◌, ℕ, ◌+◌, Some, None, false, List, [], ◌∷◌, length, map, filter, drop, get_or, count_by, All, Contains, refl, sym, ap, subst, arith}
use Rattle.std.specs.List.{IsDistinct}
use Rattle.std.proofs.lemmas.List.{take-append-drop}
use Rattle.std.proofs.lemmas.List.Elements.{All-nil, All-head, All-tail, All-weaker, All-contains_itself, Contains-append_left}
use Rattle.sc_record.specs.Names.{is_core}
use Rattle.sc_record.specs.Writes.{Write}
use Rattle.sc_record.specs.declared.entry.Entry.{Entry}
use Rattle.sc_cluster.specs.declared.slice.State.TheVariants as states
use Rattle.sc_cluster.specs.declared.slice.Slice.{Slice}
use Rattle.sc_cluster.specs.Map.{IsMap}
use Rattle.sc_cluster.specs.Slices.{is_forming, is_inactive, forming}
use Rattle.sc_cluster.proofs.LeaderLemmas.{same_from_id}
use Rattle.sc_journal.specs.Journal.{writes, unsettled}
use Rattle.sc_journal.specs.Committed.{committed, last_commit}
use Rattle.sc_journal.specs.Down.{count_up}
use Rattle.sc_journal.specs.Legal.{IsLegal}
use Rattle.sc_journal.specs.Splits.{map_after, open_split, owed, owed_by_split}
use Rattle.sc_journal.proofs.LegalLemmas.{IsLegal-prefix}
use Rattle.sc_journal.proofs.MapLemmas.{legal_fits}
use Rattle.sc_replicas.specs.Cores.{core_key, core_keys, slice_keys, IsCounted}
use Rattle.sc_replicas.specs.Searchers.{standing_rows}
use Rattle.sc_replicas.specs.declared.standing.Standing.{Standing}
use Rattle.sc_replicas.proofs.CoreLemmas.{have_leaders, keys_among}
use Rattle.sc_bucket.specs.Flight.{is_same_message}
use Rattle.sc_bucket.specs.Kept.{FeedState}
use Rattle.sc_bucket.specs.Searchers.{ShowsCommitted}
use Rattle.sc_bucket.specs.Sound.{AreActive, HasJournal, HasSearchers, HasCores, IsSent, AreSent, IsFeed, AreFeeds, IsSound}
use Rattle.sc_bucket.specs.declared.bucket.Bucket.{Bucket}
use Rattle.sc_bucket.specs.declared.phase.Phase.TheVariants as phases
use Rattle.sc_bucket.proofs.AcceptLemmas.{bucket_has_map}
use Rattle.sc_bucket.proofs.NewLemmas.{AscendByName-from_keys}
use Rattle.sc_bucket.proofs.UncommittedLemmas.{writes-committed}
use Rattle.sc_restored.specs.Marks.{is_mark}
use Rattle.sc_restored.specs.Restored.{MayRestore, AreRestored, IsShownBy, AreShown, IsRestored}
use Rattle.sc_restored.proofs.MarkLemmas.{count_up-marks}
use Rattle.sc_restored.proofs.LastLemmas.{last_are_written, last_is_last}
use Rattle.sc_restored.proofs.CoreLemmas.{restored_at, marked_by, has_last, has_none, serves, are_written, are_in_range, holds, has_clock, needs_no_room}

-- the bucket was made of these parts, of the journal and the first map
pub record AreParts (b : Bucket) (first : List Slice) (journal : List Entry) : Type 0 where
  pub is_map : IsMap first
  pub may : MayRestore first b.limit journal
  pub map_is : b.map ≡ map_after first journal
  pub places : b.unsettled.places ≡ unsettled journal
  pub owed_is : b.owed ≡ length (unsettled journal) + (count_by is_inactive b.map + count_up b.map (filter is_mark journal))
  pub room : b.owed ≤ b.journal.room
  pub filed : b.journal.filed ≡ Some 0
  pub cores : AreRestored b.map (filter is_mark journal) (writes journal) b.replicas
  pub searchers : AreShown b.map (last_commit journal) (writes (committed journal)) b.searchers
  pub messages : b.flight.messages ≡ []
  pub phase_is : b.phase ≡ phases.Idle
  pub feeds_are : b.feeds ≡ []
  pub spares_are : b.spares ≡ None

-- what it owes is counted
owes : (first slices : List Slice) (journal : List Entry) (count : ℕ) → open_split journal ≡ None → slices ≡ map_after first journal
    → count ≡ length (unsettled journal) + (count_by is_inactive slices + count_up slices (filter is_mark journal)) → count ≡ owed first journal
owes first slices journal count ended same is =
    let none : owed_by_split (open_split journal) ≡ 0 = ap owed_by_split ended in
    let inactive = ap (λ (these : List Slice). count_by is_inactive these) same in
    let up : count_up slices (filter is_mark journal) ≡ count_up (map_after first journal) journal =
    count_up-marks slices journal ∙ ap (λ (these : List Slice). count_up these journal) same in
    omega (arith, is, none, inactive, up)

-- by what was found of a journal
pub counted_by : (slices : List Slice) (journal marks : List Entry) (places : List ℕ) (some count : ℕ) → marks ≡ filter is_mark journal
    → places ≡ unsettled journal → some ≡ length places → count ≡ some + (count_by is_inactive slices + count_up slices marks)
    → count ≡ length (unsettled journal) + (count_by is_inactive slices + count_up slices (filter is_mark journal))
counted_by slices journal marks places some count marks_are places_are some_is is =
    is ∙ ap (λ (n : ℕ). n + (count_by is_inactive slices + count_up slices marks)) (some_is ∙ ap (λ (p : List ℕ). length p) places_are)
    ∙ ap (λ (m : List Entry). length (unsettled journal) + (count_by is_inactive slices + count_up slices m)) marks_are

pub owes_by : (first slices : List Slice) (journal marks : List Entry) (places : List ℕ) (some count : ℕ) → open_split journal ≡ None
    → slices ≡ map_after first journal → marks ≡ filter is_mark journal → places ≡ unsettled journal → some ≡ length places
    → count ≡ some + (count_by is_inactive slices + count_up slices marks) → count ≡ owed first journal
owes_by first slices journal marks places some count ended same marks_are places_are some_is is =
    owes first slices journal count ended same (counted_by slices journal marks places some count marks_are places_are some_is is)

-- its journal is as it has to be
has_journal : (b : Bucket) → AreParts b b.first b.journal.entries → HasJournal b
has_journal b parts =
    let may = parts.may in
    let owed_is = owes b.first b.map b.journal.entries b.owed may.ended parts.map_is parts.owed_is in
    record {
      first = parts.is_map;
      begins = may.begins;
      legal = may.legal;
      map_is = parts.map_is;
      unsettled_are = parts.places;
      owed_is = owed_is;
      room = parts.room;
      within = omega (arith, owed_is, may.within);
      limit_from = may.limit_from;
      limit_to = may.limit_to;
    }

-- where all slices are active no split makes one
pub none_forming : (slices : List Slice) → AreActive slices → forming slices ≡ []
none_forming [] active = refl
none_forming (slice ∷ slices) active =
    let first : slice.state ≡ states.Active = All-head (λ (s : Slice). s.state ≡ states.Active) slice slices active in
    let rest = none_forming slices (All-tail (λ (s : Slice). s.state ≡ states.Active) slice slices active) in
    rw first rest

-- no split is being made
is_whole : (b : Bucket) → AreParts b b.first b.journal.entries → forming b.map ≡ []
is_whole b parts =
    ap forming parts.map_is
    ∙ (legal_fits b.first b.journal.entries parts.is_map (none_forming b.first parts.may.begins) parts.may.legal).idle parts.may.ended

-- its cores are those that have to be there
has_cores : (b : Bucket) → AreParts b b.first b.journal.entries → HasCores b
has_cores b parts =
    let keys : map core_key b.replicas ≡ core_keys b.map = parts.cores.keys in
    let counted : All IsCounted b.replicas = λ k d below. (parts.cores.each k d below).2.filled.counted in
    record {
      counted = counted;
      ascend = AscendByName-from_keys b.map b.replicas (bucket_has_map b (has_journal b parts)) keys counted;
      of_map = subst (All (Contains (core_keys b.map))) (sym keys) (All-contains_itself (core_keys b.map));
      leaders = have_leaders b.map b.replicas keys;
      whole = All-weaker (Contains b.map)
          (λ (slice : Slice). is_forming slice ≡ false → All (Contains (map core_key b.replicas)) (slice_keys slice))
          (λ slice there whole. All-weaker (Contains (slice_keys slice)) (Contains (map core_key b.replicas))
          (λ key inside. subst (λ (names : List (ℕ × ℕ)). Contains names key) (sym keys)
          (keys_among b.map slice key there inside))
          (slice_keys slice) (All-contains_itself (slice_keys slice)))
          b.map (All-contains_itself b.map);
      active = λ k d below slice there same caught. (parts.cores.each k d below).2.filled.active;
      marked = λ k d below. marked_by b.journal.entries (get_or b.replicas k d) (parts.cores.each k d below).2.filled.marked;
    }

-- the rows of a searcher show what was committed of its slice
shows_committed : (first : List Slice) (journal : List Entry) (slice : Slice) (searcher : Standing) → IsLegal first journal
    → IsShownBy (last_commit journal) (writes (committed journal)) slice searcher → ShowsCommitted journal slice (standing_rows searcher)
shows_committed first journal slice searcher legal is =
    let rows : List Write = standing_rows searcher in
    let before : IsLegal first (committed journal) =
    IsLegal-prefix first (committed journal) (drop (last_commit journal) journal)
    (subst (IsLegal first) (sym (take-append-drop (last_commit journal) journal)) legal) in
    record {
      written = All-weaker (Contains (writes (committed journal))) (Contains (writes journal))
          (λ row there. subst (λ (all : List Write). Contains all row) (sym (writes-committed journal))
          (Contains-append_left (writes (committed journal)) _ row there))
          rows (last_are_written slice (writes (committed journal)) rows is.ascend is.last).0;
      last = λ id inside. last_is_last first (committed journal) slice rows id before is.last inside;
    }

-- so it has its searchers
has_searchers : (b : Bucket) → AreParts b b.first b.journal.entries → HasSearchers b
has_searchers b parts =
    let journal : List Entry = b.journal.entries in
    let is_map = bucket_has_map b (has_journal b parts) in
    record {
      each_slice = parts.searchers.each_slice;
      show = λ k d below slice there same.
          let searcher : Standing = get_or b.searchers k d in
          let (own, own_there, is) = parts.searchers.each k d below in
          let alike : own ≡ slice = same_from_id b.map own slice is_map own_there there (sym is.of_slice ∙ sym same) in (
            is.range_is ∙ ap (λ (s : Slice). s.range) alike,
            subst (λ (s : Slice). ShowsCommitted journal s (standing_rows searcher)) alike
                (shows_committed b.first journal own searcher parts.may.legal is),
          );
      place = λ k d below. (parts.searchers.each k d below).2.place_is;
    }

-- no message is in flight
none_sent : (b : Bucket) → b.flight.messages ≡ [] → AreSent b
unfolding IsDistinct
none_sent b none = record {
  each = subst (All (IsSent b)) (sym none) (All-nil (IsSent b));
  once = subst (IsDistinct is_same_message) (sym none) tt;
}

-- and there is no feed
none_fed : (b : Bucket) → b.feeds ≡ [] → AreFeeds b
unfolding IsDistinct
none_fed b none = record {
  each = subst (All (IsFeed b)) (sym none) (All-nil (IsFeed b));
  once = subst (λ (feeds : List FeedState). IsDistinct is_core (map (λ (feed : FeedState). feed.core) feeds)) (sym none) tt;
}

-- so the bucket is sound
sound : (b : Bucket) → AreParts b b.first b.journal.entries → IsSound b
sound b parts =
    let journal : List Entry = b.journal.entries in
    let first : List Slice = b.first in
    let legal = parts.may.legal in
    let sent = b.flight.messages in
    let is_map = bucket_has_map b (has_journal b parts) in
    let at = restored_at b.map journal b.replicas is_map parts.cores in
    record {
      journal = has_journal b parts;
      leaders = λ k d below slice there same. serves first journal slice (get_or b.replicas k d) legal (at k d below slice there same);
      written = λ k d below.
          let (own, own_there, is) = parts.cores.each k d below in
          are_written journal own (get_or b.replicas k d) sent b.feeds is parts.messages parts.feeds_are;
      held = λ k d below slice there same.
          holds first journal slice (get_or b.replicas k d) sent b.feeds legal (at k d below slice there same);
      in_range = λ k d below slice there same.
          are_in_range journal slice (get_or b.replicas k d) sent b.feeds (at k d below slice there same) parts.messages parts.feeds_are;
      clocks = λ k d below.
          let (own, own_there, is) = parts.cores.each k d below in has_clock journal own (get_or b.replicas k d) is;
      in_order = λ k d below. (parts.cores.each k d below).2.filled.in_order;
      searchers = has_searchers b parts;
      prepared = rw parts.phase_is parts.spares_are;
      messages = none_sent b parts.messages;
      room = λ k d below.
          needs_no_room sent b.feeds (get_or b.replicas k d) (parts.cores.each k d below).2.filled.buffer parts.messages parts.feeds_are;
      cores = has_cores b parts;
      feeds = none_fed b parts.feeds_are;
      phase = rw parts.phase_is (record { idle = parts.may.ended; whole = is_whole b parts });
    }

-- and it is restored of its journal
restored_of_own : (b : Bucket) → AreParts b b.first b.journal.entries → IsRestored b.first b.limit b.journal.entries b
restored_of_own b parts =
    let journal : List Entry = b.journal.entries in
    let is_map = bucket_has_map b (has_journal b parts) in
    record {
      sound = sound b parts;
      first = refl;
      journal_is = refl;
      filed = parts.filed;
      limit = refl;
      phase = parts.phase_is;
      feeds = parts.feeds_are;
      messages = parts.messages;
      active = λ k d below. (parts.cores.each k d below).2.filled.active;
      down = λ k d below.
          let (own, own_there, is) = parts.cores.each k d below in has_none journal own (get_or b.replicas k d) is;
      last = λ k d below slice there same up.
          has_last b.first journal slice (get_or b.replicas k d) parts.may.legal
          (restored_at b.map journal b.replicas is_map parts.cores k d below slice there same) up;
    }

-- as the journal and the map are that it was made of
pub restored_of : (b : Bucket) (first : List Slice) (journal : List Entry) → b.first ≡ first → b.journal.entries ≡ journal
    → AreParts b first journal → IsRestored first b.limit journal b
restored_of b first journal first_is journal_is parts =
    subst (λ (slices : List Slice). IsRestored slices b.limit journal b) first_is
    (subst (λ (entries : List Entry). IsRestored b.first b.limit entries b) journal_is
    (restored_of_own b
    (subst (λ (entries : List Entry). AreParts b b.first entries) (sym journal_is)
    (subst (λ (slices : List Slice). AreParts b slices journal) (sym first_is) parts))))
