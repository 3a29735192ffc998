-- A new bucket is sound.
use Rattle.std.proofs.Common.{◌≡◌, ◌<◌, ◌≤◌, ◌⊎◌, ◌∙◌, ℕ, suc, ◌^◌, ◌+◌, ◌*◌, None, Bool, false, not, List, [], ◌∷◌, ◌++◌, length, get_or, map, count_by, All, AllPairs, Contains, refl, sym, ap, subst, inl, inr, arith}
use Rattle.std.specs.List.{IsDistinct, range_with_len}
use Rattle.std.proofs.lemmas.List.Elements.{All-nil, All-head, All-tail, All-map, All-weaker, All-contains, All-contains_itself, Contains-append_left, Contains-append_right, Contains-append_cases}
use Rattle.std.proofs.lemmas.List.FromFn.{length-range_with_len, get_or-range_with_len}
use Rattle.std.proofs.lemmas.List.Kept.{AllPairs-from_increasing}
use Rattle.std.proofs.lemmas.List.Sums.{length-filter}
use Rattle.std.proofs.lemmas.Option.{none-some}
use Rattle.std.proofs.lemmas.Simd.{map-map}
use Rattle.sc_record.specs.Writes.{write_of, Write}
use Rattle.sc_cluster.specs.declared.slice.State.TheVariants as states
use Rattle.sc_cluster.specs.declared.slice.Slice.{Slice}
use Rattle.sc_cluster.specs.Map.{IsMap}
use Rattle.sc_cluster.specs.Slices.{is_forming, forming, is_inactive}
use Rattle.sc_cluster.proofs.ListLemmas.{filter-all}
use Rattle.sc_cluster.proofs.PairLemmas.{AllPairs-append, AllPairs-from_map, AllPairs-map, Contains-from_map}
use Rattle.sc_replica.specs.Core.{Core}
use Rattle.sc_journal.specs.Journal.{writes, unsettled}
use Rattle.sc_journal.specs.Down.{is_down, all_followers, count_up}
use Rattle.sc_journal.specs.Seats.{seats}
use Rattle.sc_journal.specs.Splits.{map_after, open_split, owed}
use Rattle.sc_journal.proofs.LegalLemmas.{IsLegal-none}
use Rattle.sc_bucket.specs.Kept.{Sent, FeedState}
use Rattle.sc_record.specs.Names.{is_core}
use Rattle.sc_replicas.specs.Cores.{core_key, core_keys, slice_keys, core_number, CoresAscend, IsCounted, IsNewCore, IsCoreWithoutRoom}
use Rattle.sc_bucket.specs.Searchers.{AreTaken}
use Rattle.sc_bucket.specs.Flight.{in_flight, is_same_message}
use Rattle.sc_bucket.specs.Pending.{to_feed, pending}
use Rattle.sc_bucket.specs.Sound.{AreActive, HasJournal, Serves, HasOrAwaits, IsInRange, IsSent, AreSent, HasSpare, HasCores, IsFeed, AreFeeds, IsSound}
use Rattle.sc_bucket.specs.declared.bucket.Bucket.{Bucket}
use Rattle.sc_bucket.specs.declared.phase.Phase.TheVariants as phases
use Rattle.sc_replicas.proofs.CoreLemmas.{have_leaders, keys_among}
use Rattle.sc_bucket.proofs.SearcherLemmas.{HasSearchers-new}
use Rattle.sc_bucket.proofs.InOrderLemmas.{in_order-new}

-- where every slice is active, none is inactive
none_is_inactive : (slices : List Slice) → AreActive slices → count_by is_inactive slices ≡ 0
none_is_inactive [] active = refl
none_is_inactive (slice ∷ slices) active =
    let first : slice.state ≡ states.Active = All-head (λ (s : Slice). s.state ≡ states.Active) slice slices active in
    let rest = none_is_inactive slices (All-tail (λ (s : Slice). s.state ≡ states.Active) slice slices active) in
    rw first rest

-- and none is being made
none_is_forming : (slices : List Slice) → AreActive slices → forming slices ≡ []
none_is_forming [] active = refl
none_is_forming (slice ∷ slices) active =
    let first : slice.state ≡ states.Active = All-head (λ (s : Slice). s.state ≡ states.Active) slice slices active in
    let rest = none_is_forming slices (All-tail (λ (s : Slice). s.state ≡ states.Active) slice slices active) in
    rw first rest

-- how a new bucket was made
pub record IsMade (b : Bucket) (first : List Slice) (limit : ℕ) : Type 0 where
  pub first_is : b.first ≡ first
  pub map_is : b.map ≡ first
  pub entries : b.journal.entries ≡ []
  pub places : b.unsettled.places ≡ []
  pub owed_is : b.owed ≡ length (all_followers first)
  pub room : b.owed ≤ b.journal.room
  pub limit_is : b.limit ≡ limit
  pub keys : map core_key b.replicas ≡ core_keys first
  pub messages : b.flight.messages ≡ []
  pub new : All IsNewCore b.replicas
  pub counted : All IsCounted b.replicas
  pub searchers : AreTaken first b.replicas 0 b.searchers
  pub phase_is : b.phase ≡ phases.Idle
  pub feeds_are : b.feeds ≡ []
  pub spares_are : b.spares ≡ None

-- room for some is room for no more
pub has_room_for : (wanted n room : ℕ) → n ≤ room → wanted ≤ n → wanted ≤ room
has_room_for wanted n room fits most = omega (arith, fits, most)

-- what it owes is an entry of each follower
owed_at_first : (first : List Slice) → AreActive first → owed first [] ≡ length (all_followers first)
owed_at_first first active =
    let none = none_is_inactive first active in
    let up : count_up first [] ≡ length (all_followers first) =
    sym (length-filter is_up (all_followers first)) ∙ ap length (filter-all is_up (all_followers first) (λ k d below. refl)) in
    omega (arith, none, up)
  where
    is_up : ℕ × ℕ → Bool
    is_up key = not (is_down [] key)

-- its journal is as it has to be
HasJournal-new : (b : Bucket) (first : List Slice) (limit : ℕ) → IsMap first → AreActive first
    → 16 + length (all_followers first) ≤ limit → limit ≤ 2 ^ 24 → IsMade b first limit → HasJournal b
HasJournal-new b first limit is_map active least most made =
    let owes : owed b.first b.journal.entries ≡ length (all_followers first) =
    ap (λ slices. owed slices b.journal.entries) made.first_is ∙ ap (owed first) made.entries ∙ owed_at_first first active in
    let none : length b.journal.entries ≡ 0 = ap length made.entries in
    record {
      first = subst IsMap (sym made.first_is) is_map;
      begins = subst AreActive (sym made.first_is) active;
      legal = rw made.entries (IsLegal-none b.first);
      map_is = made.map_is ∙ sym made.first_is ∙ sym (ap (map_after b.first) made.entries);
      unsettled_are = made.places ∙ sym (ap unsettled made.entries);
      owed_is = made.owed_is ∙ sym owes;
      room = made.room;
      within = omega (arith, none, made.owed_is, made.limit_is, least);
      limit_from = omega (arith, made.limit_is, least);
      limit_to = subst (λ n. n ≤ 2 ^ 24) (sym made.limit_is) most;
    }

-- a core without cells has the last writes of an empty journal
serves_nothing : (slice : Slice) (core : Core) → IsNewCore core → Serves [] slice core
serves_nothing slice core new active leader = (new.active, λ id within. ap (λ cells. write_of cells id) new.cells)

-- nothing is pending for it
pending_nothing : (messages : List Sent) (feeds : List FeedState) (core : Core) → IsNewCore core → messages ≡ []
    → feeds ≡ [] → pending messages feeds core ≡ []
pending_nothing messages feeds core new unsent unfed =
    ap (λ sent. in_flight sent core.core ++ core.buffer ++ to_feed feeds core.core) unsent
    ∙ ap (λ rows. core.buffer ++ to_feed rows core.core) unfed
    ∙ ap (λ (buffer : List Write). buffer ++ []) new.buffer

-- so what is said of each cell of a core and of each write that is pending for it is true
nothing_there : (P : Write → Type 0) (messages : List Sent) (feeds : List FeedState) (core : Core) → IsNewCore core
    → messages ≡ [] → feeds ≡ [] → All P core.cells × All P (pending messages feeds core)
nothing_there P messages feeds core new unsent unfed = (
  subst (All P) (sym new.cells) (All-nil P),
  subst (All P) (sym (pending_nothing messages feeds core new unsent unfed)) (All-nil P),
)

-- nor is there a last write
no_last : (messages : List Sent) (feeds : List FeedState) (slice : Slice) (core : Core)
    → HasOrAwaits [] messages feeds slice core
no_last messages feeds slice core attached id write within is = absurd (none-some write is)

-- no room is needed
no_room : (messages : List Sent) (feeds : List FeedState) (core : Core) → IsNewCore core → messages ≡ [] → feeds ≡ []
    → HasSpare messages feeds core
no_room messages feeds core new unsent unfed =
    let sent : length (in_flight messages core.core) ≡ 0 = ap (λ these. length (in_flight these core.core)) unsent in
    let all : length (pending messages feeds core) ≡ 0 =
    ap length (pending_nothing messages feeds core new unsent unfed) in
    record {
      cells = omega (arith, all);
      buffer = omega (arith, sent);
    }

-- no message is in flight
none_sent : (b : Bucket) → b.flight.messages ≡ [] → AreSent b
unfolding IsDistinct
none_sent b none = record {
  each = subst (All (IsSent b)) (sym none) (All-nil (IsSent b));
  once = subst (IsDistinct is_same_message) (sym none) tt;
}

-- and there is no feed
none_fed : (b : Bucket) → b.feeds ≡ [] → AreFeeds b
unfolding IsDistinct
none_fed b none = record {
  each = subst (All (IsFeed b)) (sym none) (All-nil (IsFeed b));
  once = subst (λ (feeds : List FeedState). IsDistinct is_core (map (λ (feed : FeedState). feed.core) feeds)) (sym none)
      tt;
}

-- the number of a name
abbrev number_of : ℕ × ℕ → ℕ
number_of key = key.0 * 256 + key.1

-- the one name comes before the other
abbrev ComesBefore : ℕ × ℕ → ℕ × ℕ → Type 0
ComesBefore one other = number_of one < number_of other

-- the names of a slice's cores ascend
ascend_in_slice : (slice : Slice) → AllPairs ComesBefore (slice_keys slice)
ascend_in_slice slice =
    AllPairs-map ComesBefore (λ (replica : ℕ). (slice.id.0, replica)) (range_with_len 1 slice.replicas)
    (λ i j d before within.
    let inside : j < slice.replicas = omega (arith, within, length-range_with_len 1 slice.replicas) in
    let at_i = get_or-range_with_len 1 slice.replicas i d (omega (arith, before, inside)) in
    let at_j = get_or-range_with_len 1 slice.replicas j d inside in
    omega (arith, at_i, at_j, before))

-- a name is of one of the slices
key_of_slice : (slices : List Slice) (key : ℕ × ℕ) → Contains (core_keys slices) key
    → (slice : Slice) × Contains slices slice × (key.0 ≡ slice.id.0)
key_of_slice [] key (k, below, is) = absurd (omega arith)
key_of_slice (slice ∷ slices) key there =
    by (key_of_slice slices key) (Contains-append_cases (slice_keys slice) (core_keys slices) key there)
  where
    by : (Contains (core_keys slices) key → (one : Slice) × Contains slices one × (key.0 ≡ one.id.0))
        → Contains (slice_keys slice) key ⊎ Contains (core_keys slices) key
        → (one : Slice) × Contains (slice ∷ slices) one × (key.0 ≡ one.id.0)
    by rest (inl here) =
        let (replica, inside, is) = Contains-from_map (λ (replica : ℕ). (slice.id.0, replica)) (range_with_len 1 slice.replicas) key here in
        (slice, (0, omega arith, refl), sym (ap (λ (k : ℕ × ℕ). k.0) is))
    by rest (inr later) =
        let (one, (k, below, at), is) = rest later in
        (one, (suc k, omega arith, at), is)

-- the names ascend, where the slices' numbers rise and each replica's number has eight bits
keys_ascend : (slices : List Slice) → AllPairs (λ (one other : Slice). one.id.0 < other.id.0) slices
    → All (λ (key : ℕ × ℕ). key.1 < 2 ^ 8) (core_keys slices) → AllPairs ComesBefore (core_keys slices)
keys_ascend [] rise counted = λ i j d before within. absurd (omega arith)
keys_ascend (slice ∷ slices) rise counted =
    let IsFew : ℕ × ℕ → Type 0 = λ key. key.1 < 2 ^ 8 in
    let rest : All IsFew (core_keys slices) = All-weaker (Contains (core_keys slices)) IsFew
    (λ key inside. All-contains IsFew (slice_keys slice ++ core_keys slices) key counted
    (Contains-append_right (slice_keys slice) (core_keys slices) key inside))
    (core_keys slices) (All-contains_itself (core_keys slices)) in
    AllPairs-append ComesBefore (slice_keys slice) (core_keys slices) (ascend_in_slice slice)
    (keys_ascend slices (λ i j d before within. rise (suc i) (suc j) d (omega arith) (omega arith)) rest)
    (λ one other of_slice later.
    let (replica, inside, is) =
    Contains-from_map (λ (replica : ℕ). (slice.id.0, replica)) (range_with_len 1 slice.replicas) one of_slice in
    let (after, (k, below, at), named) = key_of_slice slices other later in
    let less = rise 0 (suc k) after (omega arith) (omega arith) in
    let first : slice.id.0 ≡ one.0 = ap (λ (key : ℕ × ℕ). key.0) is in
    let there : (get_or slices k after).id.0 ≡ after.id.0 = ap (λ (s : Slice). s.id.0) at in
    let few : one.1 < 2 ^ 8 = All-contains IsFew (slice_keys slice ++ core_keys slices) one counted
    (Contains-append_left (slice_keys slice) (core_keys slices) one of_slice) in
    omega (arith, less, first, named, there, few))

-- so the cores ascend that have the names of a map
pub AscendByName-from_keys : (slices : List Slice) (cores : List Core) → IsMap slices
    → map core_key cores ≡ core_keys slices → All IsCounted cores → CoresAscend cores
AscendByName-from_keys slices cores is_map keys counted k within =
    let numbers : List ℕ = map number_of (core_keys slices) in
    let same : map (λ (core : Core). core_number core.core) cores ≡ numbers =
    sym (map-map number_of core_key cores) ∙ ap (map number_of) keys in
    let few : All (λ (key : ℕ × ℕ). key.1 < 2 ^ 8) (core_keys slices) =
    subst (All (λ (key : ℕ × ℕ). key.1 < 2 ^ 8)) keys
    (All-map (λ (key : ℕ × ℕ). key.1 < 2 ^ 8) core_key cores counted) in
    let rise = AllPairs-from_map (λ (one other : ℕ). one < other) (λ (slice : Slice). slice.id.0) slices
    (AllPairs-from_increasing (map (λ (slice : Slice). slice.id.0) slices) is_map.ids) in
    let pairs : AllPairs (λ (one other : ℕ). one < other) (map (λ (core : Core). core_number core.core) cores) =
    subst (AllPairs (λ (one other : ℕ). one < other)) (sym same)
    (AllPairs-map (λ (one other : ℕ). one < other) number_of (core_keys slices) (keys_ascend slices rise few)) in
    pairs k (k + 1) 0 (omega arith) within

-- and are those that have to be there
HasCores-new : (b : Bucket) (first : List Slice) (limit : ℕ) → IsMap first → IsMade b first limit → HasCores b
HasCores-new b first limit is_map made =
    let keys : map core_key b.replicas ≡ core_keys b.map = made.keys ∙ ap core_keys (sym made.map_is) in
    record {
      counted = made.counted;
      ascend = AscendByName-from_keys first b.replicas is_map made.keys made.counted;
      of_map = subst (All (Contains (core_keys b.map))) (sym keys) (All-contains_itself (core_keys b.map));
      leaders = have_leaders b.map b.replicas keys;
      whole = All-weaker (Contains b.map)
          (λ (slice : Slice). is_forming slice ≡ false → All (Contains (map core_key b.replicas)) (slice_keys slice))
          (λ slice there whole. All-weaker (Contains (slice_keys slice)) (Contains (map core_key b.replicas))
          (λ key inside. subst (λ (names : List (ℕ × ℕ)). Contains names key) (sym keys)
          (keys_among b.map slice key there inside))
          (slice_keys slice) (All-contains_itself (slice_keys slice)))
          b.map (All-contains_itself b.map);
      active = λ k d below slice there same whole. (made.new k d below).active;
      marked = λ k d below. record {
        down = (made.new k d below).up
            ∙ ap (λ entries. is_down entries (core_key (get_or b.replicas k d))) (sym made.entries);
        number = (made.new k d below).number
            ∙ ap (λ entries. seats entries (get_or b.replicas k d).core.slice (get_or b.replicas k d).core.replica) (sym made.entries);
      };
    }

-- and so the bucket is sound
pub IsSound-new : (b : Bucket) (first : List Slice) (limit : ℕ) → IsMap first → AreActive first
    → 16 + length (all_followers first) ≤ limit → limit ≤ 2 ^ 24 → IsMade b first limit → IsSound b
IsSound-new b first limit is_map active least most made =
    let sent : List Sent = b.flight.messages in
    record {
      journal = HasJournal-new b first limit is_map active least most made;
      leaders = λ k d below slice there same.
          rw made.entries (serves_nothing slice (get_or b.replicas k d) (made.new k d below));
      written = λ k d below.
          nothing_there (Contains (writes b.journal.entries)) sent b.feeds (get_or b.replicas k d) (made.new k d below)
          made.messages made.feeds_are;
      held = λ k d below slice there same. rw made.entries (no_last sent b.feeds slice (get_or b.replicas k d));
      in_range = λ k d below slice there same.
          nothing_there (IsInRange slice) sent b.feeds (get_or b.replicas k d) (made.new k d below) made.messages
          made.feeds_are;
      clocks = λ k d below. inl (made.new k d below).clock;
      in_order = All-weaker IsNewCore IsCoreWithoutRoom in_order-new b.replicas made.new;
      searchers = HasSearchers-new b first b.replicas is_map made.map_is made.entries made.new made.searchers;
      prepared = rw made.phase_is made.spares_are;
      messages = none_sent b made.messages;
      room = λ k d below.
          no_room sent b.feeds (get_or b.replicas k d) (made.new k d below) made.messages made.feeds_are;
      cores = HasCores-new b first limit is_map made;
      feeds = none_fed b made.feeds_are;
      phase = rw made.phase_is (record {
        idle = ap open_split made.entries;
        whole = ap forming made.map_is ∙ none_is_forming first active;
      });
    }
