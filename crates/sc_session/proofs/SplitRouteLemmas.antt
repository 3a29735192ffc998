-- Which slice has a hash after a split that was done: the one that had it before, or one of the subs where that was the parent.
use Rattle.std.proofs.Common.{◌≡◌, inl, inr, ℕ, ◌≤◌, ℤ, ◌≤ℤ◌, eqb, Bool, true, false, not, List, [], ◌∷◌, ◌++◌, map, find, Option, Some, None, All, Contains, count_by, refl, sym, ap, ◌∙◌, subst, arith}
use Rattle.std.specs.Int.{w32}
use Rattle.std.specs.List.{filter_map}
use Rattle.std.proofs.Math.Facts.{sfits_to_z}
use Rattle.std.proofs.lemmas.Int.{ints}
use Rattle.std.proofs.lemmas.Bool.{eqb-true}
use Rattle.std.proofs.lemmas.Bool.Decides.{Decides-eqb, not_from_Decides}
use Rattle.std.proofs.lemmas.List.{append-nil}
use Rattle.std.proofs.lemmas.List.Elements.{All-nil, All-cons, All-head, All-tail, Contains-append_left, Contains-append_right}
use Rattle.sc_hash.specs.Bounds.{contains}
use Rattle.sc_hash.specs.Range.{IsWithin, Meets}
use Rattle.sc_hash.specs.declared.range.Range.{Range}
use Rattle.sc_hash.proofs.BoundsLemmas.{contains-Decides}
use Rattle.sc_router.specs.Route.{route_hash}
use Rattle.sc_router.proofs.ShareLemmas.{route_bits-lt}
use Rattle.sc_record.specs.declared.slice.SliceId.{SliceId}
use Rattle.sc_record.specs.declared.slice.SubSlice.{SubSlice}
use Rattle.sc_record.specs.Writes.{Write}
use Rattle.sc_record.specs.declared.entry.Entry.{Entry}
use Rattle.sc_record.specs.declared.entry.Entry.TheVariants as entry
use Rattle.sc_cluster.specs.declared.plan.SplitPlan.{SplitPlan}
use Rattle.sc_cluster.specs.declared.slice.State.TheVariants as states
use Rattle.sc_cluster.specs.declared.slice.Slice.{Slice}
use Rattle.sc_cluster.specs.Slices.{forming}
use Rattle.sc_cluster.specs.Tiles.{holders, Tiles}
use Rattle.sc_cluster.specs.Map.{least_hash, greatest_hash, IsMap, Leads}
use Rattle.sc_cluster.specs.Plans.{sub_bounds, MayCut}
use Rattle.sc_cluster.specs.Changes.{Change, begun_slice, in_state, switched_slice, after}
use Rattle.sc_cluster.specs.Histories.{after_all}
use Rattle.sc_cluster.proofs.CountLemmas.{count_by-map}
use Rattle.sc_cluster.proofs.IdLemmas.{id_of}
use Rattle.sc_cluster.proofs.ItemLemmas.{Found, find_from_count, count_by-positive}
use Rattle.sc_cluster.proofs.LeaderLemmas.{is_leader, found_is_some, found_leads, fits_is_within, leads_alone}
use Rattle.sc_cluster.proofs.ListLemmas.{Contains-map, Contains-filter}
use Rattle.sc_cluster.proofs.OrderLemmas.{same_from_rising_key}
use Rattle.sc_cluster.proofs.StateLemmas.{is_other, switched-active, switched-forming}
use Rattle.sc_journal.specs.Journal.{writes}
use Rattle.sc_journal.specs.Committed.{committed, IsShown}
use Rattle.sc_journal.specs.Legal.{MayBeSplit, MayBeDropped, MayFollow, IsLegal}
use Rattle.sc_journal.specs.Splits.{map_change_of, map_after}
use Rattle.sc_journal.proofs.CommittedLemmas.{committed-prefix}
use Rattle.sc_journal.proofs.JournalLemmas.{last_write_is, writes-append}
use Rattle.sc_journal.proofs.LegalLemmas.{IsLegal-prefix, legal_hash}
use Rattle.sc_journal.proofs.ListLemmas.{append-cons}
use Rattle.sc_journal.proofs.MapLemmas.{keeps_a_map}
use Rattle.sc_journal.proofs.SplitLemmas.{map_after-append, map_after-push, map_after-left, open_split-push, LeavesSlices, LeavesSlices-write, LeavesSlices-settled, LeavesSlices-committed, LeavesSlices-down, LeavesSlices-up, LeavesSlices-led}
use Rattle.sc_split.specs.Splits.{is_of_split}
use Rattle.sc_fanout.specs.Searches.{IsFoundIn}
use Rattle.sc_session.specs.SplitLaws.{ComesBetween, of_others, IsMadeWithin, IsSucceededBy, RoutesFollowTheSubs}
use Rattle.sc_session.proofs.SplitRefusedLemmas.{no_changes}

-- ---- which slice has a hash
-- of a map's slices one has it
leader : (slices : List Slice) (h : ℤ) → IsMap slices → IsWithin least_hash greatest_hash h → (slice : Slice) × Leads slices h slice
leader slices h is_map within = by (find (is_leader h) slices) refl where
  by : (found : Option Slice) → found ≡ find (is_leader h) slices → (slice : Slice) × Leads slices h slice
  by (Some slice) is = (slice, found_leads slices h slice is is_map within)
  by None is = let both : false ≡ true = found_is_some slices h None is is_map within in absurd (cc)

-- the hash of a write that is shown is one of 32 bits
shown_hash : (first : List Slice) (journal : List Entry) (write : Write) → IsLegal first journal → IsShown journal write
    → IsWithin least_hash greatest_hash write.hash
shown_hash first journal write legal shown =
    let rest = committed-prefix journal in
    let parts : writes journal ≡ writes (committed journal) ++ writes rest.0 =
    ap writes (sym rest.1) ∙ writes-append (committed journal) rest.0 in
    let there : Contains (writes (committed journal)) write = (last_write_is (committed journal) write.id write shown.last).1 in
    let here : Contains (writes journal) write =
    subst (λ (ws : List Write). Contains ws write) (sym parts) (Contains-append_left (writes (committed journal)) (writes rest.0) write there) in
    let hash : write.hash ≡ route_hash write.id = legal_hash first journal write legal here in
    subst (IsWithin least_hash greatest_hash) (sym hash) (fits_is_within (route_hash write.id) (sfits_to_z {w = w32} (record { fits = route_bits-lt write.id })))

-- slices of a map with one id are one
same_slice : (slices : List Slice) (one other : Slice) → IsMap slices → Contains slices one → Contains slices other → id_of one ≡ id_of other
    → one ≡ other
same_slice slices one other is_map = same_from_rising_key id_of slices one other is_map.ids

module _ (first : List Slice) (is_map : IsMap first) (idle : forming first ≡ []) (h : ℤ) (slice : Slice) where
  -- the slice has the hash after the journal
  abbrev HasIt : List Entry → Type 0
  HasIt journal = Leads (map_after first journal) h slice

  left : (journal : List Entry) (one : Entry) → LeavesSlices one → HasIt journal → HasIt (journal ++ one ∷ [])
  left journal one leaves = subst (λ (slices : List Slice). Leads slices h slice) (sym (map_after-left first journal one leaves))

  -- an entry that drops a slice leaves those that are active
  kept_dropped : (journal : List Entry) (dropped : SliceId) → IsLegal first journal → MayBeDropped first journal dropped → HasIt journal
      → HasIt (journal ++ entry.Dropped dropped ∷ [])
  kept_dropped journal dropped legal may leads =
      subst (λ (slices : List Slice). Leads slices h slice) (sym (map_after-push first journal (entry.Dropped dropped) (Change.Dropped dropped) refl))
      (record {
        there = Contains-filter (is_other dropped) (map_after first journal) slice leads.there (by (eqb slice.id.0 dropped.0) refl);
        active = leads.active;
        within = leads.within;
      })
    where
      gone : Slice
      gone = may.inactive.0

      by : (t : Bool) → eqb slice.id.0 dropped.0 ≡ t → not t ≡ true
      by false is = refl
      by true is =
          let id : id_of slice ≡ id_of gone = eqb-true slice.id.0 dropped.0 is ∙ sym (ap (λ (i : SliceId). i.0) may.inactive.2) in
          let same : slice ≡ gone =
          same_slice (map_after first journal) slice gone (keeps_a_map first journal is_map idle legal).0 leads.there may.inactive.1 id in
          let both : states.Active ≡ states.Inactive = sym leads.active ∙ ap (λ (s : Slice). s.state) same ∙ may.inactive.3 in
          absurd (cc)

  -- so does any other that neither begins nor ends a split
  kept_step : (journal : List Entry) (one : Entry) → IsLegal first journal → MayFollow first journal one → is_of_split one ≡ false
      → HasIt journal → HasIt (journal ++ one ∷ [])
  kept_step journal (entry.Write cell) legal may other leads = left journal (entry.Write cell) (LeavesSlices-write cell) leads
  kept_step journal (entry.Settled place) legal may other leads = left journal (entry.Settled place) (LeavesSlices-settled place) leads
  kept_step journal entry.Committed legal may other leads = left journal entry.Committed LeavesSlices-committed leads
  kept_step journal (entry.Begun parent subs) legal may other leads = absurd (cc)
  kept_step journal (entry.Switched parent) legal may other leads = absurd (cc)
  kept_step journal (entry.Failed parent) legal may other leads = absurd (cc)
  kept_step journal (entry.Dropped dropped) legal may other leads = kept_dropped journal dropped legal may leads
  kept_step journal (entry.Down core) legal may other leads = left journal (entry.Down core) (LeavesSlices-down core) leads
  kept_step journal (entry.Up core) legal may other leads = left journal (entry.Up core) (LeavesSlices-up core) leads
  kept_step journal (entry.Led core) legal may other leads = left journal (entry.Led core) (LeavesSlices-led core) leads

  -- and several
  kept : (journal more : List Entry) → IsLegal first (journal ++ more) → All (λ (one : Entry). is_of_split one ≡ false) more
      → HasIt journal → HasIt (journal ++ more)
  kept journal [] legal others leads = subst HasIt (sym (append-nil journal)) leads
  kept journal (one ∷ more) legal others leads =
      subst HasIt (append-cons journal one more)
      (kept (journal ++ one ∷ []) more (subst (IsLegal first) (sym (append-cons journal one more)) legal)
      (All-tail (λ (e : Entry). is_of_split e ≡ false) one more others)
      (kept_step journal one (IsLegal-prefix first journal (one ∷ more) legal) (legal journal one more refl)
      (All-head (λ (e : Entry). is_of_split e ≡ false) one more others) leads))

-- ---- the subs of a parent
module _ (plan : SplitPlan) (parent : Slice) (tile : Tiles (map sub_bounds plan.subs) parent.range.min parent.range.max) where
  -- one of the subs has each hash of the parent
  sub_with : (h : ℤ) → IsWithin parent.range.min parent.range.max h
      → (sub : SubSlice) × Contains plan.subs sub × (contains h (sub_bounds sub) ≡ true)
  sub_with h within =
      let found : Found (λ (sub : SubSlice). contains h (sub_bounds sub)) plan.subs =
      find_from_count (λ (sub : SubSlice). contains h (sub_bounds sub)) plan.subs
      (omega (arith, tile.inside h within, count_by-map sub_bounds (contains h) plan.subs)) in
      (found.0, found.2, found.3)

  -- each hash of a sub is the parent's
  of_parent : (h : ℤ) (sub : SubSlice) → Contains plan.subs sub → contains h (sub_bounds sub) ≡ true
      → IsWithin parent.range.min parent.range.max h
  of_parent h sub there has = by (contains h (parent.range.min, parent.range.max)) refl where
    some : 1 ≤ count_by (λ (s : SubSlice). contains h (sub_bounds s)) plan.subs
    some = count_by-positive (λ (s : SubSlice). contains h (sub_bounds s)) plan.subs sub there has

    by : (t : Bool) → contains h (parent.range.min, parent.range.max) ≡ t → IsWithin parent.range.min parent.range.max h
    by true is = (contains-Decides h parent.range.min parent.range.max).0 is
    by false is =
        let none : holders h (map sub_bounds plan.subs) ≡ 0 =
        tile.outside h (not_from_Decides (contains h (parent.range.min, parent.range.max)) (contains-Decides h parent.range.min parent.range.max) is) in
        absurd (omega (arith, none, some, count_by-map sub_bounds (contains h) plan.subs))

  -- so the sub lies within the parent
  made_within : (sub : SubSlice) → Contains plan.subs sub → IsMadeWithin plan parent (in_state states.Active (begun_slice sub))
  made_within sub there =
      let ordered : sub.min ≤ℤ sub.max = sub.ordered in
      let least : sub.min ≤ℤ sub.min = omega (arith, ints) in
      let greatest : sub.max ≤ℤ sub.max = omega (arith, ints) in
      record {
        sub = sub;
        planned = there;
        is = refl;
        least = (of_parent sub.min sub there ((contains-Decides sub.min sub.min sub.max).1 (least, ordered))).0;
        greatest = (of_parent sub.max sub there ((contains-Decides sub.max sub.min sub.max).1 (ordered, greatest))).1;
      }

-- ---- a switch
-- ids with one number are one
same_id : (one other : SliceId) → one.0 ≡ other.0 → one ≡ other
same_id one other same = let make : ℕ → SliceId = λ n. record { 0 = n } in ap make same

module _ (slices : List Slice) (plan : SplitPlan) (h : ℤ) (slice : Slice) (is_map : IsMap slices)
    (cut : (parent : Slice) × MayCut slices plan.parent (map sub_bounds plan.subs) parent) (leads : Leads slices h slice) where
  -- the slices once the split has begun, and once it was switched
  abbrev while_open : List Slice
  while_open = slices ++ map begun_slice plan.subs

  abbrev afterwards : List Slice
  afterwards = map (switched_slice plan.parent) while_open

  stays : eqb slice.id.0 plan.parent.0 ≡ false → Leads afterwards h slice
  stays other =
      let same : switched_slice plan.parent slice ≡ slice = switched-active plan.parent slice leads.active other in
      record {
        there = subst (Contains afterwards) same
            (Contains-map (switched_slice plan.parent) while_open slice (Contains-append_left slices (map begun_slice plan.subs) slice leads.there));
        active = leads.active;
        within = leads.within;
      }

  taken : eqb slice.id.0 plan.parent.0 ≡ true → (later : Slice) × Leads afterwards h later × IsMadeWithin plan slice later
  taken is =
      let parent : Slice = cut.0 in
      let id : id_of slice ≡ id_of parent =
      eqb-true slice.id.0 plan.parent.0 is ∙ sym (ap (λ (i : SliceId). i.0) cut.1.named) in
      let same : slice ≡ parent = same_slice slices slice parent is_map leads.there cut.1.there id in
      let tile : Tiles (map sub_bounds plan.subs) slice.range.min slice.range.max =
      subst (λ (s : Slice). Tiles (map sub_bounds plan.subs) s.range.min s.range.max) (sym same) cut.1.tile in
      let found = sub_with plan slice tile h leads.within in
      let sub : SubSlice = found.0 in
      let active : switched_slice plan.parent (begun_slice sub) ≡ in_state states.Active (begun_slice sub) =
      switched-forming plan.parent (begun_slice sub) refl in (
        in_state states.Active (begun_slice sub),
        record {
          there = subst (Contains afterwards) active
              (Contains-map (switched_slice plan.parent) while_open (begun_slice sub)
              (Contains-append_right slices (map begun_slice plan.subs) (begun_slice sub) (Contains-map begun_slice plan.subs sub found.1)));
          active = refl;
          within = (contains-Decides h sub.min sub.max).0 found.2;
        },
        made_within plan slice tile sub found.1,
      )

  -- the place of the slice is taken
  succeeded : (later : Slice) × Leads afterwards h later × IsSucceededBy plan slice later
  succeeded = by (eqb slice.id.0 plan.parent.0) refl where
    by : (t : Bool) → eqb slice.id.0 plan.parent.0 ≡ t → (later : Slice) × Leads afterwards h later × IsSucceededBy plan slice later
    by true is =
        let later = taken is in
        let id : slice.id ≡ plan.parent = same_id slice.id plan.parent (eqb-true slice.id.0 plan.parent.0 is) in
        (later.0, later.1, inr (id, later.2))
    by false other = (slice, stays other, inl ((λ (same : slice.id ≡ plan.parent). differs (ap (λ (i : SliceId). i.0) same) other), refl))
      where
        differs : slice.id.0 ≡ plan.parent.0 → eqb slice.id.0 plan.parent.0 ≡ false → ⊥
        differs same other = let both : true ≡ false = sym ((Decides-eqb slice.id.0 plan.parent.0).1 same) ∙ other in absurd (cc)

-- ---- the law
all_left : {A : Type 0} (P : A → Type 0) (xs ys : List A) → All P (xs ++ ys) → All P xs
all_left P [] ys each = All-nil P
all_left P (x ∷ xs) ys each = All-cons P x xs (All-head P x (xs ++ ys) each) (all_left P xs ys (All-tail P x (xs ++ ys) each))

all_right : {A : Type 0} (P : A → Type 0) (xs ys : List A) → All P (xs ++ ys) → All P ys
all_right P [] ys each = each
all_right P (x ∷ xs) ys each = all_right P xs ys (All-tail P x (xs ++ ys) each)

-- the entry neither begins nor ends a split
abbrev IsOther : Entry → Type 0
IsOther one = is_of_split one ≡ false

-- the slice that had the hash before, and the one that took its place
record Follows (first : List Slice) (plan : SplitPlan) (before after : List Entry) (h : ℤ) : Type 0 where
  slice : Slice
  later : Slice
  was : Leads (map_after first before) h slice
  is : Leads (map_after first after) h later
  succeeded : IsSucceededBy plan slice later

module _ (first : List Slice) (plan : SplitPlan) (before after : List Entry) (h : ℤ) (is_map : IsMap first) (idle : forming first ≡ [])
    (legal : IsLegal first after) (split : ComesBetween plan before after) (others : All IsOther (of_others split))
    (within : IsWithin least_hash greatest_hash h) where
  abbrev begun : Entry
  begun = entry.Begun plan.parent plan.subs

  abbrev switched : Entry
  switched = entry.Switched plan.parent

  -- the journal when the split begins, and when it is switched
  abbrev at_begin : List Entry
  at_begin = before ++ split.earlier

  abbrev at_switch : List Entry
  at_switch = at_begin ++ begun ∷ split.during

  legal_switch : IsLegal first at_switch
  legal_switch = IsLegal-prefix first at_switch (switched ∷ split.further) (subst (IsLegal first) split.after_is legal)

  legal_begin : IsLegal first at_begin
  legal_begin = IsLegal-prefix first at_begin (begun ∷ split.during) legal_switch

  may : MayBeSplit first at_begin plan.parent plan.subs
  may = legal_switch at_begin begun split.during refl

  nothing : filter_map map_change_of split.during ≡ []
  nothing = no_changes first (at_begin ++ begun ∷ []) split.during plan.parent
      (subst (IsLegal first) (sym (append-cons at_begin begun split.during)) legal_switch) (open_split-push at_begin begun) split.next

  slices_switched : map_after first (at_switch ++ switched ∷ [])
      ≡ map (switched_slice plan.parent) (map_after first at_begin ++ map begun_slice plan.subs)
  slices_switched = map_after-push first at_switch switched (Change.Switched plan.parent) refl
      ∙ ap (map (switched_slice plan.parent)) (map_after-append first at_begin (begun ∷ split.during)
      ∙ ap (λ (changes : List Change). after_all (map_after first at_begin) (Change.Begun plan.parent plan.subs ∷ changes)) nothing)

  map_of : (journal : List Entry) → IsLegal first journal → IsMap (map_after first journal)
  map_of journal is_legal = (keeps_a_map first journal is_map idle is_legal).0

  start : (slice : Slice) × Leads (map_after first before) h slice
  start = leader (map_after first before) h (map_of before (IsLegal-prefix first before split.earlier legal_begin)) within

  begins : Leads (map_after first at_begin) h start.0
  begins = kept first is_map idle h start.0 before split.earlier legal_begin
      (all_left IsOther split.earlier split.during (all_left IsOther (split.earlier ++ split.during) split.further others)) start.1

  taken_over : (later : Slice) × Leads (map (switched_slice plan.parent) (map_after first at_begin ++ map begun_slice plan.subs)) h later
      × IsSucceededBy plan start.0 later
  taken_over = succeeded (map_after first at_begin) plan h start.0 (map_of at_begin legal_begin) (may.plan.cut.0, may.plan.cut.1) begins

  parts : after ≡ (at_switch ++ switched ∷ []) ++ split.further
  parts = split.after_is ∙ sym (append-cons at_switch switched split.further)

  ends : Leads (map_after first after) h taken_over.0
  ends = subst (λ (j : List Entry). Leads (map_after first j) h taken_over.0) (sym parts)
      (kept first is_map idle h taken_over.0 (at_switch ++ switched ∷ []) split.further (subst (IsLegal first) parts legal)
      (all_right IsOther (split.earlier ++ split.during) split.further others)
      (subst (λ (slices : List Slice). Leads slices h taken_over.0) (sym slices_switched) taken_over.1))

  follows : Follows first plan before after h
  follows = record { slice = start.0; later = taken_over.0; was = start.1; is = ends; succeeded = taken_over.2 }

pub routes_follow_the_subs : RoutesFollowTheSubs
routes_follow_the_subs first plan before after criterion write is_map idle legal split others found =
    (followed.slice, followed.later, followed.was, followed.is, followed.succeeded, λ route. (meets route, looks route))
  where
    within : IsWithin least_hash greatest_hash write.hash
    within = shown_hash first after write legal found.shown

    followed : Follows first plan before after write.hash
    followed = follows first plan before after write.hash is_map idle legal split others within

    meets : (route : Range) → IsFoundIn first after criterion (Some route) write
        → Meets followed.later.range.min followed.later.range.max route.min route.max
    meets route routed =
        let same : routed.in_route.0 ≡ followed.later =
        leads_alone (map_after first after) write.hash routed.in_route.0 followed.later (keeps_a_map first after is_map idle legal).0 within
        routed.in_route.1 followed.is in
        subst (λ (slice : Slice). Meets slice.range.min slice.range.max route.min route.max) same routed.in_route.2

    looks : (route : Range) → Meets followed.later.range.min followed.later.range.max route.min route.max
        → IsFoundIn first after criterion (Some route) write
    looks route meet = record { shown = found.shown; matched = found.matched; in_route = (followed.later, followed.is, meet) }
