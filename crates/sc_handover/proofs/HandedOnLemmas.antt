-- The searchers that a switch leaves: each active slice has one, and it shows what was committed in the slice's range.
use Rattle.std.proofs.Common.{◌≡◌, ℤ, Bool, true, false, not, cond, eqb, List, [], ◌∷◌, ◌++◌, map, filter, Some, All, Contains, refl, sym, ap, ◌∙◌, subst, arith}
use Rattle.std.specs.Prelude.{nat_eq, IfSome}
use Rattle.std.proofs.lemmas.Bool.Decides.{not_from_Decides}
use Rattle.std.proofs.lemmas.List.{length-map, get_or-map, map-append}
use Rattle.std.proofs.lemmas.List.Elements.{All-append, All-contains, All-contains_itself, All-filter, All-head, All-map, All-tail, All-weaker, filter-append, filter_passes}
use Rattle.std.proofs.lemmas.Simd.{map-map}
use Rattle.std.proofs.lemmas.Bool.{not-true}
use Rattle.sc_hash.specs.declared.range.Range.{Range}
use Rattle.sc_hash.specs.Range.{IsWithin}
use Rattle.sc_hash.specs.Bounds.{contains}
use Rattle.sc_hash.proofs.BoundsLemmas.{contains-Decides}
use Rattle.sc_record.specs.declared.slice.SliceId.{SliceId}
use Rattle.sc_record.specs.Writes.{Write}
use Rattle.sc_record.specs.declared.entry.Entry.{Entry}
use Rattle.sc_record.specs.declared.entry.Entry.TheVariants as entry
use Rattle.sc_cluster.specs.declared.slice.Slice.{Slice}
use Rattle.sc_cluster.specs.Tiles.{Tiles}
use Rattle.sc_cluster.specs.Slices.{is_active, is_forming, forming, slice_bounds}
use Rattle.sc_cluster.specs.Changes.{switched_slice}
use Rattle.sc_cluster.proofs.ItemLemmas.{count_by-positive}
use Rattle.sc_cluster.proofs.LeaderLemmas.{same_from_id}
use Rattle.sc_cluster.proofs.ListLemmas.{Contains-map, Contains-from_filter, filter-all, filter-filter, filter-map, map-map_kept}
use Rattle.sc_cluster.proofs.PairLemmas.{Contains-from_map}
use Rattle.sc_cluster.proofs.StateLemmas.{is_settled, is_other, is_active-switched, switched_keeps}
use Rattle.sc_journal.specs.Journal.{writes, last_write}
use Rattle.sc_journal.specs.Committed.{committed, last_commit}
use Rattle.sc_journal.proofs.CommittedLemmas.{committed-push_other, last_commit-push_other}
use Rattle.sc_journal.proofs.JournalLemmas.{writes-push_other}
use Rattle.sc_replicas.specs.Searchers.{StandingState, standing_of}
use Rattle.sc_bucket.specs.Searchers.{AreOfEachSlice, ShowsCommitted, cut_to, AreHandedOn, ArePrepared}
use Rattle.sc_bucket.specs.Sound.{HasSearchers, IsSplitOpen, IsSound}
use Rattle.sc_bucket.specs.declared.bucket.Bucket.{Bucket}
use Rattle.sc_bucket.specs.declared.phase.Phase.TheVariants as phases
use Rattle.sc_replicas.specs.declared.standing.Standing.{Standing}
use Rattle.sc_bucket.proofs.AcceptLemmas.{bucket_has_map}
use Rattle.sc_bucket.proofs.SearcherLemmas.{IsAt}
use Rattle.sc_handover.proofs.NotedLemmas.{is_settled-active}
use Rattle.sc_handover.specs.Parts.{PutsSwitch}

-- the id of a slice, of a searcher, and of a searcher as contracts see it
abbrev slice_id : Slice → SliceId
slice_id slice = slice.id

abbrev id_of : StandingState → SliceId
id_of searcher = searcher.slice

abbrev own_id : Standing → SliceId
own_id searcher = searcher.slice

-- it is not the parent
abbrev not_parent : SliceId → SliceId → Bool
not_parent parent id = not (nat_eq id.0 parent.0)

-- of the slices that no split is making those are active that were, but the parent
active_others : (parent : SliceId) (slices : List Slice) → All (λ slice. is_forming slice ≡ false) slices
    → filter (λ slice. is_active (switched_slice parent slice)) slices ≡ filter (is_other parent) (filter is_active slices)
active_others parent [] none = refl
active_others parent (slice ∷ slices) none =
    ap (λ b. cond b (slice ∷ now) now)
    (is_active-switched parent slice
    ∙ ap (λ f. cond f true (cond (eqb slice.id.0 parent.0) false (is_active slice)))
    (All-head (λ s. is_forming s ≡ false) slice slices none))
    ∙ by (is_active slice) (eqb slice.id.0 parent.0) refl
    (active_others parent slices (All-tail (λ s. is_forming s ≡ false) slice slices none))
  where
    now : List Slice
    now = filter (λ s. is_active (switched_slice parent s)) slices

    before : List Slice
    before = filter is_active slices

    by : (a t : Bool) → eqb slice.id.0 parent.0 ≡ t → now ≡ filter (is_other parent) before
        → cond (cond t false a) (slice ∷ now) now ≡ filter (is_other parent) (cond a (slice ∷ before) before)
    by true true is rest = rw is rest
    by true false is rest = rw is (ap (λ these. slice ∷ these) rest)
    by false true is rest = rest
    by false false is rest = rest

-- a switch keeps the ids of the slices
ids-switched : (parent : SliceId) (slices : List Slice) → map slice_id (map (switched_slice parent) slices) ≡ map slice_id slices
ids-switched parent slices = map-map_kept slice_id (switched_slice parent) (switched_keeps slice_id (λ _ _. refl) parent) slices

-- so the ids of the active slices among them are those before, but the parent
ids_of_others : (parent : SliceId) (slices : List Slice) → All (λ slice. is_forming slice ≡ false) slices
    → map slice_id (filter is_active (map (switched_slice parent) slices))
    ≡ filter (not_parent parent) (map slice_id (filter is_active slices))
ids_of_others parent slices none =
    ap (map slice_id) (filter-map is_active (switched_slice parent) slices)
    ∙ ids-switched parent (filter (λ slice. is_active (switched_slice parent slice)) slices)
    ∙ ap (map slice_id) (active_others parent slices none)
    ∙ sym (filter-map (not_parent parent) slice_id (filter is_active slices))

-- and each of those that a split was making is active
ids_of_subs : (parent : SliceId) (slices : List Slice) → All (λ slice. is_forming slice ≡ true) slices
    → map slice_id (filter is_active (map (switched_slice parent) slices)) ≡ map slice_id slices
ids_of_subs parent slices all =
    ap (map slice_id) (filter-all is_active (map (switched_slice parent) slices)
    (All-map (λ slice. is_active slice ≡ true) (switched_slice parent) slices
    (All-weaker (λ slice. is_forming slice ≡ true) (λ slice. is_active (switched_slice parent slice) ≡ true) now slices all)))
    ∙ ids-switched parent slices
  where
    now : (slice : Slice) → is_forming slice ≡ true → is_active (switched_slice parent slice) ≡ true
    now slice is =
        is_active-switched parent slice ∙ ap (λ f. cond f true (cond (eqb slice.id.0 parent.0) false (is_active slice))) is

-- the subs come last in the map
abbrev ComeLast : List Slice → Type 0
ComeLast slices = slices ≡ filter (λ (slice : Slice). not (is_forming slice)) slices ++ forming slices

-- so the ids of the active slices of the map are those before but the parent, and then the subs
ids_of_active : (slices : List Slice) (parent : SliceId) → ComeLast slices
    → map slice_id (filter is_active (map (switched_slice parent) slices))
    ≡ filter (not_parent parent) (map slice_id (filter is_active slices)) ++ map slice_id (forming slices)
ids_of_active slices parent last =
    ap (λ (these : List Slice). map slice_id (filter is_active (map (switched_slice parent) these))) last
    ∙ ap (λ these. map slice_id (filter is_active these)) (map-append (switched_slice parent) others subs)
    ∙ ap (map slice_id) (filter-append is_active (map (switched_slice parent) others) (map (switched_slice parent) subs))
    ∙ map-append slice_id (filter is_active (map (switched_slice parent) others)) (filter is_active (map (switched_slice parent) subs))
    ∙ ap (λ ids. ids ++ map slice_id (filter is_active (map (switched_slice parent) subs)))
    (ids_of_others parent others (All-weaker (λ s. is_settled s ≡ true) (λ s. is_forming s ≡ false)
    (λ s. not-true (is_forming s)) others (filter_passes is_settled slices)))
    ∙ ap (λ ids. filter (not_parent parent) (map slice_id (filter is_active others)) ++ ids)
    (ids_of_subs parent subs (filter_passes is_forming slices))
    ∙ ap (λ (these : List Slice). filter (not_parent parent) (map slice_id these) ++ map slice_id subs)
    (filter-filter is_active is_settled is_settled-active slices)
  where
    others : List Slice
    others = filter is_settled slices

    subs : List Slice
    subs = forming slices

-- the ids of the searchers
ids_of_searchers : (searchers : List Standing) → map own_id searchers ≡ map id_of (map standing_of searchers)
ids_of_searchers searchers = sym (map-map id_of standing_of searchers)

ids_of_cut : (searcher : Standing) (subs : List Slice)
    → map id_of (map (λ (sub : Slice). cut_to sub (standing_of searcher)) subs) ≡ map slice_id subs
ids_of_cut searcher subs = map-map id_of (λ (sub : Slice). cut_to sub (standing_of searcher)) subs

-- so each active slice has its searcher, in the order of the map
each_has_searcher : (slices : List Slice) (parent : SliceId) (old new : List Standing) → ComeLast slices
    → AreOfEachSlice slices old → AreHandedOn slices parent old new → AreOfEachSlice (map (switched_slice parent) slices) new
each_has_searcher slices parent old new last each handed =
    ids_of_searchers new
    ∙ ap (map id_of) handed.handed
    ∙ map-append id_of others cut
    ∙ ap (λ ids. ids ++ map id_of cut)
    (sym (filter-map (not_parent parent) id_of (map standing_of old))
    ∙ ap (filter (not_parent parent)) (sym (ids_of_searchers old) ∙ each))
    ∙ ap (λ ids. filter (not_parent parent) (map slice_id (filter is_active slices)) ++ ids) (ids_of_cut handed.searcher (forming slices))
    ∙ sym (ids_of_active slices parent last)
  where
    others : List StandingState
    others = filter (λ (other : StandingState). not (nat_eq other.slice.0 parent.0)) (map standing_of old)

    cut : List StandingState
    cut = map (λ (sub : Slice). cut_to sub (standing_of handed.searcher)) (forming slices)

-- what a sub's range has is in its parent's
within_parent : (subs : List Slice) (parent sub : Slice) (h : ℤ) → Tiles (map slice_bounds subs) parent.range.min parent.range.max
    → Contains subs sub → IsWithin sub.range.min sub.range.max h → IsWithin parent.range.min parent.range.max h
within_parent subs parent sub h tiles there within = by (contains h (slice_bounds parent)) refl where
  by : (b : Bool) → contains h (slice_bounds parent) ≡ b → IsWithin parent.range.min parent.range.max h
  by true is = (contains-Decides h parent.range.min parent.range.max).0 is
  by false is =
      let none = tiles.outside h (not_from_Decides (contains h (slice_bounds parent)) (contains-Decides h parent.range.min parent.range.max) is) in
      let some = count_by-positive (contains h) (map slice_bounds subs) (slice_bounds sub) (Contains-map slice_bounds subs sub there)
      ((contains-Decides h sub.range.min sub.range.max).1 within) in
      absurd (omega (arith, none, some))

-- rows show what was committed in a range that is no wider, and in a journal in which no more was written or committed
shows_still : (journal longer : List Entry) (one other : Slice) (rows : List Write) → writes longer ≡ writes journal
    → committed longer ≡ committed journal
    → ((h : ℤ) → IsWithin other.range.min other.range.max h → IsWithin one.range.min one.range.max h)
    → ShowsCommitted journal one rows → ShowsCommitted longer other rows
shows_still journal longer one other rows same_writes same_committed wider shows = record {
  written = subst (λ (all : List Write). All (Contains all) rows) (sym same_writes) shows.written;
  last = λ id within. shows.last id (wider _ within) ∙ ap (λ j. last_write j id) (sym same_committed);
}

-- what a searcher of a bucket shows
abbrev ShowsIn : List Slice → List Entry → StandingState → Type 0
ShowsIn slices journal searcher = (slice : Slice) → Contains slices slice → slice.id ≡ searcher.slice
    → (searcher.range ≡ slice.range) × ShowsCommitted journal slice searcher.snapshot.rows

-- what a sound bucket keeps ready for its switch is what that leaves
pub handed_on : (b : Bucket) (parent : SliceId) (searchers : List Standing) → IsSound b → b.phase ≡ phases.Recovering parent
    → b.spares ≡ Some searchers → AreHandedOn b.map parent b.searchers searchers
handed_on b parent searchers sound recovering is =
    let prepared = subst (λ phase. ArePrepared phase b.map b.searchers b.spares) recovering sound.prepared in
    subst (λ spares. IfSome spares (AreHandedOn b.map parent b.searchers)) is prepared.0

-- what is said of each element of a mapped list is said of what is made of each
pub All-from_map : {A B : Type 0} (P : B → Type 0) (f : A → B) (xs : List A) → All P (map f xs) → All (λ x. P (f x)) xs
All-from_map P f xs all k d below = subst P (get_or-map f xs k d (f d) below) (all k (f d) (omega (arith, length-map xs f)))

-- so a bucket has its searchers once its split was switched
pub HasSearchers-switched : (old new : Bucket) (parent : SliceId) → IsSound old → IsSplitOpen old parent → PutsSwitch old parent new
    → HasSearchers new
HasSearchers-switched old new parent sound split puts = record {
  each_slice = subst (λ slices. AreOfEachSlice slices new.searchers) (sym puts.map_is)
      (each_has_searcher old.map parent old.searchers new.searchers split.last sound.searchers.each_slice puts.searchers_are);
  show = subst (λ slices. All (λ (searcher : Standing). ShowsIn slices new.journal.entries (standing_of searcher)) new.searchers) (sym puts.map_is)
      (subst (λ (journal : List Entry). All (λ (searcher : Standing). ShowsIn after_switch journal (standing_of searcher)) new.searchers) (sym puts.entries)
      (All-from_map (ShowsIn after_switch longer) standing_of new.searchers
      (subst (All (ShowsIn after_switch longer)) (sym puts.searchers_are.handed)
      (All-append (ShowsIn after_switch longer) others cut others_show cut_show))));
  place = subst (λ place. All (IsAt place) new.searchers) (sym same_place)
      (All-from_map IsTakenAt standing_of new.searchers
      (subst (All IsTakenAt) (sym puts.searchers_are.handed)
      (All-append IsTakenAt others cut
      (All-filter (λ (other : StandingState). not (nat_eq other.slice.0 parent.0)) IsTakenAt (map standing_of old.searchers) old_places)
      (All-map IsTakenAt (λ (sub : Slice). cut_to sub (standing_of puts.searchers_are.searcher)) (forming old.map)
      (λ k d below. All-contains (IsAt (last_commit old.journal.entries)) old.searchers puts.searchers_are.searcher
      sound.searchers.place puts.searchers_are.there)))));
} where
  IsTakenAt : StandingState → Type 0
  IsTakenAt searcher = searcher.snapshot.place ≡ last_commit old.journal.entries

  old_places : All IsTakenAt (map standing_of old.searchers)
  old_places = All-map IsTakenAt standing_of old.searchers sound.searchers.place

  same_place : last_commit new.journal.entries ≡ last_commit old.journal.entries
  same_place = ap last_commit puts.entries ∙ last_commit-push_other old.journal.entries (entry.Switched parent) refl

  after_switch : List Slice
  after_switch = map (switched_slice parent) old.map

  longer : List Entry
  longer = old.journal.entries ++ entry.Switched parent ∷ []

  same_writes : writes longer ≡ writes old.journal.entries
  same_writes = writes-push_other old.journal.entries (entry.Switched parent) refl

  same_committed : committed longer ≡ committed old.journal.entries
  same_committed = committed-push_other old.journal.entries (entry.Switched parent) refl

  others : List StandingState
  others = filter (λ (other : StandingState). not (nat_eq other.slice.0 parent.0)) (map standing_of old.searchers)

  cut : List StandingState
  cut = map (λ (sub : Slice). cut_to sub (standing_of puts.searchers_are.searcher)) (forming old.map)

  shown : All (ShowsIn old.map old.journal.entries) (map standing_of old.searchers)
  shown = All-map (ShowsIn old.map old.journal.entries) standing_of old.searchers sound.searchers.show

  same_range : (slice : Slice) → (switched_slice parent slice).range ≡ slice.range
  same_range = switched_keeps (λ (s : Slice). s.range) (λ _ _. refl) parent

  same_id : (slice : Slice) → (switched_slice parent slice).id ≡ slice.id
  same_id = switched_keeps (λ (s : Slice). s.id) (λ _ _. refl) parent

  shows_other : (searcher : StandingState) → ShowsIn old.map old.journal.entries searcher → ShowsIn after_switch longer searcher
  shows_other searcher shows slice there named =
      let (before, before_there, is) = Contains-from_map (switched_slice parent) old.map slice there in
      let range : slice.range ≡ before.range = ap (λ (s : Slice). s.range) (sym is) ∙ same_range before in
      let id : before.id ≡ searcher.slice = sym (same_id before) ∙ (ap (λ (s : Slice). s.id) is ∙ named) in
      let old_shows = shows before before_there id in (
        old_shows.0 ∙ sym range,
        shows_still old.journal.entries longer before slice searcher.snapshot.rows same_writes same_committed
            (λ h within. subst (λ (r : Range). IsWithin r.min r.max h) range within) old_shows.1,
      )

  others_show : All (ShowsIn after_switch longer) others
  others_show =
      All-weaker (ShowsIn old.map old.journal.entries) (ShowsIn after_switch longer) shows_other others
      (All-weaker (Contains others) (ShowsIn old.map old.journal.entries)
      (λ searcher there. All-contains (ShowsIn old.map old.journal.entries) (map standing_of old.searchers) searcher shown
      (Contains-from_filter (λ (other : StandingState). not (nat_eq other.slice.0 parent.0)) (map standing_of old.searchers) searcher there).0)
      others (All-contains_itself others))

  shows_sub : (sub : Slice) → Contains (forming old.map) sub
      → ShowsIn after_switch longer (cut_to sub (standing_of puts.searchers_are.searcher))
  shows_sub sub of_sub slice there named =
      let searcher = puts.searchers_are.searcher in
      let (parent_slice, parent_is, splitting) = split.split in
      let (before, before_there, is) = Contains-from_map (switched_slice parent) old.map slice there in
      let range : slice.range ≡ before.range = ap (λ (s : Slice). s.range) (sym is) ∙ same_range before in
      let id : before.id ≡ sub.id = sym (same_id before) ∙ (ap (λ (s : Slice). s.id) is ∙ named) in
      let sub_there = (Contains-from_filter is_forming old.map sub of_sub).0 in
      let one : before ≡ sub = same_from_id old.map before sub (bucket_has_map old sound.journal) before_there sub_there id in
      let same : slice.range ≡ sub.range = range ∙ ap (λ (s : Slice). s.range) one in
      let parent_shows = All-contains (λ (s : Standing). ShowsIn old.map old.journal.entries (standing_of s)) old.searchers searcher
      sound.searchers.show puts.searchers_are.there parent_slice splitting.there (parent_is ∙ sym puts.searchers_are.of_parent) in (
        sym same,
        shows_still old.journal.entries longer parent_slice slice (standing_of searcher).snapshot.rows same_writes same_committed
            (λ h within. within_parent (forming old.map) parent_slice sub h splitting.tile of_sub
            (subst (λ (r : Range). IsWithin r.min r.max h) same within)) parent_shows.1,
      )

  cut_show : All (ShowsIn after_switch longer) cut
  cut_show =
      All-map (ShowsIn after_switch longer) (λ (sub : Slice). cut_to sub (standing_of puts.searchers_are.searcher)) (forming old.map)
      (All-weaker (Contains (forming old.map)) (λ sub. ShowsIn after_switch longer (cut_to sub (standing_of puts.searchers_are.searcher)))
      shows_sub (forming old.map) (All-contains_itself (forming old.map)))
