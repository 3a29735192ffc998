-- The cores, the feeds and the messages of a bucket once a split has begun.
use Rattle.std.proofs.Common.{◌≡◌, ◌≤◌, ◌<◌, ◌+◌, ◌*◌, ◌^◌, ◌∙◌, ℕ, true, false, List, [], ◌∷◌, ◌++◌, map, All, Contains, refl, sym, ap, subst, arith}
use Rattle.std.specs.List.{IsDistinct}
use Rattle.std.specs.List.Sorted.{IsStrictlyIncreasing}
use Rattle.std.proofs.lemmas.List.{map-append}
use Rattle.std.proofs.lemmas.List.Concat.{flat_map-append}
use Rattle.std.proofs.lemmas.List.Elements.{All-map, All-weaker, All-contains, All-contains_itself, All-append, Contains-append_left, Contains-append_right}
use Rattle.sc_record.specs.declared.slice.SliceId.{SliceId}
use Rattle.sc_record.specs.declared.slice.SubSlice.{SubSlice}
use Rattle.sc_record.specs.declared.slice.CoreId.{CoreId}
use Rattle.sc_record.specs.declared.entry.Entry.TheVariants as entry
use Rattle.sc_cluster.specs.declared.slice.Slice.{Slice}
use Rattle.sc_cluster.specs.Slices.{is_forming, greatest_id}
use Rattle.sc_cluster.proofs.IdLemmas.{id_of, greatest_id-bounds}
use Rattle.sc_cluster.specs.Map.{IsMap}
use Rattle.sc_cluster.specs.Plans.{IsPlan}
use Rattle.sc_cluster.specs.Changes.{begun_slice}
use Rattle.sc_cluster.proofs.ListLemmas.{Contains-map}
use Rattle.sc_cluster.proofs.OrderLemmas.{IsStrictlyIncreasing-append, AreBelow-between}
use Rattle.sc_cluster.proofs.PairLemmas.{Contains-from_map}
use Rattle.sc_ulog.specs.declared.mode.Mode.TheVariants.{Active}
use Rattle.sc_replica.specs.Core.{Core}
use Rattle.sc_journal.specs.Down.{is_down}
use Rattle.sc_journal.specs.Seats.{seats}
use Rattle.sc_journal.proofs.DownLemmas.{LeavesCores-begun}
use Rattle.sc_journal.proofs.LegalDownLemmas.{leader_is_up}
use Rattle.sc_journal.proofs.SeatLemmas.{seats_begin_in_order}
use Rattle.sc_bucket.specs.Kept.{FeedState}
use Rattle.sc_record.specs.Names.{key_of_core, is_core}
use Rattle.sc_replicas.specs.Cores.{core_key, core_keys, slice_keys, core_number, IsCounted, without_room}
use Rattle.sc_bucket.specs.Sound.{HasJournal, IsMarked, may_catch_up, HasCores, IsFeed, AreFeeds}
use Rattle.sc_bucket.specs.declared.bucket.Bucket.{Bucket}
use Rattle.sc_replicas.proofs.CoreLemmas.{keys_among}
use Rattle.sc_bucket.proofs.FeedLemmas.{fed_core}
use Rattle.sc_bucket.proofs.SoundLemmas.{SaysSame, SaysSame-push, AreMarked-left}
use Rattle.sc_handover.specs.Made.{first_core, first_feed}
use Rattle.sc_handover.proofs.PlanLemmas.{leader_number, leaders_rise, sub_above, is_begun}
use Rattle.sc_handover.proofs.MadeLemmas.{made_core, IsMade, map-made, feeds_apart, first_key}
use Rattle.sc_handover.proofs.BegunCoreLemmas.{core_below}
use Rattle.sc_handover.proofs.PushedLemmas.{first_is_idle}
use Rattle.sc_snapshot.specs.Rows.{SnapshotState}

-- the number of a core's name
abbrev number_of : Core → ℕ
number_of core = core_number core.core

-- the names of the cores ascend: those of the subs come last
ascend-begun : (old : Bucket) (parent : SliceId) (subs : List SubSlice) (made : List Core) → HasCores old
    → IsPlan old.map parent subs → map without_room made ≡ map made_core subs
    → IsStrictlyIncreasing (map number_of (old.replicas ++ made))
ascend-begun old parent subs made has plan same =
    let numbers : map number_of made ≡ map leader_number subs = map-made number_of subs made same in
    let most : ℕ = greatest_id old.map * 256 + 255 in
    let low : All (λ (n : ℕ). n ≤ most) (map number_of old.replicas) =
    All-map (λ (n : ℕ). n ≤ most) number_of old.replicas
    (λ k d below. let counted = has.counted k d below in
    let slice = core_below old _ has (All-contains_itself old.replicas k d below) in
    omega (arith, counted, slice)) in
    let high : All (λ (n : ℕ). most < n) (map leader_number subs) =
    All-map (λ (n : ℕ). most < n) leader_number subs
    (All-weaker (Contains subs) (λ (sub : SubSlice). most < leader_number sub)
    (λ sub there. let above = sub_above old.map parent subs sub plan there in omega (arith, above)) subs
    (All-contains_itself subs)) in
    subst IsStrictlyIncreasing
    (ap (λ (rest : List ℕ). map number_of old.replicas ++ rest) (sym numbers)
    ∙ sym (map-append number_of old.replicas made))
    (IsStrictlyIncreasing-append (map number_of old.replicas) (map leader_number subs) has.ascend
    (leaders_rise old.map parent subs plan)
    (AreBelow-between (map number_of old.replicas) (map leader_number subs) most low high))

-- the cores are those that have to be there
pub HasCores-begun : (old new : Bucket) (parent : SliceId) (subs : List SubSlice) (snapshot : SnapshotState) (made : List Core)
    → HasJournal old → HasCores old → All (λ (core : Core). core.mode ≡ Active) old.replicas → IsPlan old.map parent subs
    → IsMap (old.map ++ map begun_slice subs)
    → new.map ≡ old.map ++ map begun_slice subs → new.journal.entries ≡ old.journal.entries ++ entry.Begun parent subs ∷ []
    → new.replicas ≡ old.replicas ++ made
    → map without_room made ≡ map made_core subs → All (IsMade snapshot subs) made → HasCores new
HasCores-begun old new parent subs snapshot made journal has all_active plan is_map map_is entries replicas_are same each = record {
  counted = subst (All IsCounted) (sym replicas_are)
      (All-append IsCounted old.replicas made has.counted (All-weaker (IsMade snapshot subs) IsCounted counted made each));
  ascend = subst (λ (cores : List Core). IsStrictlyIncreasing (map number_of cores)) (sym replicas_are)
      (ascend-begun old parent subs made has plan same);
  of_map = subst (All (Contains (core_keys new.map))) (sym keys_are)
      (subst (λ (slices : List Slice). All (Contains (core_keys slices)) (old_keys ++ new_keys)) (sym map_is)
      (All-append (Contains (core_keys others)) old_keys new_keys
      (All-weaker (Contains (core_keys old.map)) (Contains (core_keys others)) among old_keys has.of_map)
      (All-map (Contains (core_keys others)) key_of subs
      (All-weaker (Contains subs) (λ (sub : SubSlice). Contains (core_keys others) (key_of sub)) its_key subs
      (All-contains_itself subs)))));
  leaders = subst (All (λ (slice : Slice). Contains (map core_key new.replicas) (slice.id.0, 1))) (sym map_is)
      (subst (λ (keys : List (ℕ × ℕ)). All (λ (slice : Slice). Contains keys (slice.id.0, 1)) others) (sym keys_are)
      (All-append (λ (slice : Slice). Contains (old_keys ++ new_keys) (slice.id.0, 1)) old.map (map begun_slice subs)
      (All-weaker (λ (slice : Slice). Contains old_keys (slice.id.0, 1))
      (λ (slice : Slice). Contains (old_keys ++ new_keys) (slice.id.0, 1))
      (λ slice there. Contains-append_left old_keys new_keys (slice.id.0, 1) there) old.map has.leaders)
      (All-map (λ (slice : Slice). Contains (old_keys ++ new_keys) (slice.id.0, 1)) begun_slice subs
      (All-weaker (Contains subs) (λ (sub : SubSlice). Contains (old_keys ++ new_keys) (sub.id.0, 1))
      (λ sub there. Contains-append_right old_keys new_keys (sub.id.0, 1) (Contains-map key_of subs sub there)) subs
      (All-contains_itself subs)))));
  whole = subst (All (IsWhole (map core_key new.replicas))) (sym map_is)
      (subst (λ (keys : List (ℕ × ℕ)). All (IsWhole keys) others) (sym keys_are)
      (All-append (IsWhole (old_keys ++ new_keys)) old.map (map begun_slice subs)
      (All-weaker (IsWhole old_keys) (IsWhole (old_keys ++ new_keys)) still_whole old.map has.whole)
      (All-map (IsWhole (old_keys ++ new_keys)) begun_slice subs (λ _ _ _ settled. absurd (cc)))));
  active = subst (All (IsActiveOf new.map)) (sym replicas_are)
      (subst (λ (slices : List Slice). All (IsActiveOf slices) (old.replicas ++ made)) (sym map_is)
      (All-append (IsActiveOf others) old.replicas made
      (All-weaker (λ (core : Core). core.mode ≡ Active) (IsActiveOf others)
      (λ core active slice there named caught_up. active) old.replicas all_active)
      (All-weaker (IsMade snapshot subs) (IsActiveOf others) no_matter made each)));
  marked = subst (All (IsMarked new.journal.entries)) (sym replicas_are)
      (All-append (IsMarked new.journal.entries) old.replicas made
      (AreMarked-left old.journal.entries new.journal.entries old.replicas old.replicas refl says_same has.marked)
      (All-weaker (IsMade snapshot subs) (IsMarked new.journal.entries) marked made each));
} where
  others : List Slice
  others = old.map ++ map begun_slice subs

  key_of : SubSlice → ℕ × ℕ
  key_of sub = (sub.id.0, 1)

  old_keys : List (ℕ × ℕ)
  old_keys = map core_key old.replicas

  new_keys : List (ℕ × ℕ)
  new_keys = map key_of subs

  IsWhole : List (ℕ × ℕ) → Slice → Type 0
  IsWhole keys slice = is_forming slice ≡ false → All (Contains keys) (slice_keys slice)

  IsActiveOf : List Slice → Core → Type 0
  IsActiveOf slices core = (slice : Slice) → Contains slices slice → slice.id ≡ core.core.slice
      → may_catch_up new.phase slice core.core ≡ false → core.mode ≡ Active

  says_same : SaysSame old.journal.entries new.journal.entries
  says_same =
      SaysSame-push old.journal.entries new.journal.entries (entry.Begun parent subs) entries (LeavesCores-begun parent subs)
      (λ _ _. refl)

  -- there was no slice of the sub's id, so that its leader is its core 1
  in_order : (sub : SubSlice) → Contains subs sub → (seat : ℕ) → seats old.journal.entries sub.id seat ≡ seat
  in_order sub there =
      seats_begin_in_order old.first old.journal.entries sub.id journal.first (first_is_idle old journal) journal.legal
      (λ slice inside own.
      let within : Contains old.map slice = subst (λ (slices : List Slice). Contains slices slice) (sym journal.map_is) inside in
      let low : slice.id.0 ≤ greatest_id old.map =
      All-contains (λ (one : Slice). id_of one ≤ greatest_id old.map) old.map slice (greatest_id-bounds old.map) within in
      let above = sub_above old.map parent subs sub plan there in
      absurd (omega (arith, low, above, ap (λ (id : SliceId). id.0) own)))

  marked : (core : Core) → IsMade snapshot subs core → IsMarked new.journal.entries core
  marked core is =
      let named : core.core ≡ first_core is.sub = ap (λ (c : Core). c.core) is.core_is in
      record {
        down = ap (λ (c : Core). c.down) is.core_is
            ∙ sym (says_same.down (core_key core) ∙ ap (λ (name : CoreId). is_down old.journal.entries (key_of_core name)) named
            ∙ leader_is_up old.first old.journal.entries is.sub.id.0 journal.legal);
        number = ap (λ (c : Core). c.number) is.core_is
            ∙ sym (ap (λ (core_in : ℕ → ℕ). core_in core.core.replica) (says_same.seated core.core.slice)
            ∙ ap (λ (name : CoreId). seats old.journal.entries name.slice name.replica) named
            ∙ in_order is.sub is.there 1);
      }

  keys_are : map core_key new.replicas ≡ old_keys ++ new_keys
  keys_are =
      ap (map core_key) replicas_are ∙ map-append core_key old.replicas made
      ∙ ap (λ (rest : List (ℕ × ℕ)). old_keys ++ rest) (map-made core_key subs made same)

  counted : (core : Core) → IsMade snapshot subs core → IsCounted core
  counted core is =
      subst (λ (name : CoreId). name.replica < 2 ^ 8) (sym (ap (λ (c : Core). c.core) is.core_is)) (omega arith)

  among : (key : ℕ × ℕ) → Contains (core_keys old.map) key → Contains (core_keys others) key
  among key there =
      subst (λ (keys : List (ℕ × ℕ)). Contains keys key) (sym (flat_map-append slice_keys old.map (map begun_slice subs)))
      (Contains-append_left (core_keys old.map) (core_keys (map begun_slice subs)) key there)

  its_key : (sub : SubSlice) → Contains subs sub → Contains (core_keys others) (key_of sub)
  its_key sub there =
      keys_among others (begun_slice sub) (sub.id.0, 1)
      (Contains-append_right old.map (map begun_slice subs) (begun_slice sub) (Contains-map begun_slice subs sub there))
      (first_key (begun_slice sub))

  still_whole : (slice : Slice) → IsWhole old_keys slice → IsWhole (old_keys ++ new_keys) slice
  still_whole slice whole settled =
      All-weaker (Contains old_keys) (Contains (old_keys ++ new_keys))
      (λ key there. Contains-append_left old_keys new_keys key there) (slice_keys slice) (whole settled)

  no_matter : (core : Core) → IsMade snapshot subs core → IsActiveOf others core
  no_matter core is slice there named caught_up =
      let begun : begun_slice is.sub ≡ slice =
      is_begun old.map subs is.sub slice is_map is.there there
      (named ∙ ap (λ (c : Core). c.core.slice) is.core_is) in
      let both : true ≡ false = ap (λ (s : Slice). may_catch_up new.phase s core.core) begun ∙ caught_up in
      absurd (cc)

-- so are the feeds
pub AreFeeds-begun : (new : Bucket) (slices : List Slice) (parent : SliceId) (subs : List SubSlice) (snapshot : SnapshotState)
    (cores made : List Core) → IsPlan slices parent subs → new.map ≡ slices ++ map begun_slice subs
    → new.replicas ≡ cores ++ made → new.feeds ≡ map (first_feed snapshot) subs
    → map without_room made ≡ map made_core subs → AreFeeds new
AreFeeds-begun new slices parent subs snapshot cores made plan map_is replicas_are feeds_are same = record {
  each = subst (All (IsFeed new)) (sym feeds_are)
      (All-map (IsFeed new) (first_feed snapshot) subs
      (All-weaker (Contains subs) (λ (sub : SubSlice). IsFeed new (first_feed snapshot sub)) each subs
      (All-contains_itself subs)));
  once = subst (λ (feeds : List FeedState). IsDistinct is_core (map fed_core feeds)) (sym feeds_are)
      (feeds_apart slices parent subs snapshot plan);
} where
  each : (sub : SubSlice) → Contains subs sub → IsFeed new (first_feed snapshot sub)
  each sub there =
      let as_made : Contains (map without_room made) (made_core sub) =
      subst (λ (these : List Core). Contains these (made_core sub)) (sym same)
      (Contains-map made_core subs sub there) in
      let (core, inside, is) = Contains-from_map without_room made (made_core sub) as_made in
      record {
        slice = begun_slice sub;
        there = subst (λ (these : List Slice). Contains these (begun_slice sub)) (sym map_is)
            (Contains-append_right slices (map begun_slice subs) (begun_slice sub)
            (Contains-map begun_slice subs sub there));
        catches_up = refl;
        of_slice = refl;
        range_is = refl;
        core = core;
        core_there = subst (λ (these : List Core). Contains these core) (sym replicas_are)
            (Contains-append_right cores made core inside);
        core_is = ap (λ (c : Core). c.core) is;
        buffering = ap (λ (c : Core). c.mode) is;
        within = omega arith;
      }
