-- The names of a map's slices stay distinct, and none but that of a slice that is being made begins as those of an
-- active slice's subs do.
use Rattle.std.proofs.Common.{◌≡◌, ◌≢◌, ◌⊎◌, ℕ, ◌+◌, ◌<◌, ◌≤◌, ◌==◌, cond, Bool, true, false, IsTrue, List, [], ◌∷◌, ◌++◌, length, get_or, map, filter, codes, slice_get, Some, AllPairs, Contains, nat_eq, bytes_eq, refl, sym, ap, ◌∙◌, subst, subst₂, inl, inr, arith, append_assoc}
use Rattle.std.proofs.lemmas.Bool.{both_ways, eqb-false}
use Rattle.std.proofs.lemmas.Bool.Decides.{Decides-eqb}
use Rattle.std.proofs.lemmas.Fmt.{decimal_injective}
use Rattle.std.proofs.lemmas.List.{append_cancel_left}
use Rattle.std.proofs.lemmas.List.Elements.{All-append, All-contains, All-from_recursion, Contains-append_cases}
use Rattle.std.proofs.lemmas.List.Kept.{AllPairs-filter}
use Rattle.std.proofs.lemmas.Map.Made.{AllPairs-from_IsDistinct, IsDistinct-from_AllPairs}
use Rattle.std.proofs.lemmas.Option.{slice_get-get_or, slice_get_read}
use Rattle.std.proofs.lemmas.Slice.Eq.{bytes_eq-Decides, starts_is}
use Rattle.std.specs.Fmt.{decimal}
use Rattle.std.specs.List.{starts_with, IsDistinct}
use Rattle.sc_record.specs.declared.slice.SliceId.{SliceId}
use Rattle.sc_record.specs.declared.slice.SubSlice.{SubSlice}
use Rattle.sc_cluster.specs.declared.slice.State.TheVariants as states
use Rattle.sc_cluster.specs.declared.slice.Slice.{Slice}
use Rattle.sc_cluster.specs.Limits.{most_slices}
use Rattle.sc_cluster.specs.Slices.{is_active_state, is_active, is_forming, forming, first_name, sub_prefix, sub_name}
use Rattle.sc_cluster.specs.Map.{IsSubOf, IsSplitting, IsMap, AreFirst}
use Rattle.sc_cluster.specs.Plans.{IsPlanned, IsPlan}
use Rattle.sc_cluster.specs.Changes.{Change, begun_slice, recovering_slice, switched_slice, after, MayChange}
use Rattle.sc_cluster.proofs.DigitLemmas.{underscore, HasNoUnderscore, underscore_in, decimal-HasNoUnderscore, Extends, cut_at_underscore}
use Rattle.sc_cluster.proofs.ListLemmas.{map-map_kept, Contains-filter, Contains-from_filter, same_from_key}
use Rattle.sc_cluster.proofs.PairLemmas.{Contains-from_map, AllPairs-map, AllPairs-from_map, AllPairs-append}
use Rattle.sc_cluster.proofs.StateLemmas.{recovering_keeps, switched_keeps, active_settled, is_active-recovering, is_forming-recovering, is_active-switched}

-- no name but that of a slice that is being made begins as those of an active slice's subs do
abbrev pub IsApart : List Slice → Type 0
IsApart slices = (parent slice : Slice) → Contains slices parent → Contains slices slice → IsTrue (is_active parent)
    → IsTrue (starts_with nat_eq slice.name (sub_prefix parent.name)) → IsTrue (is_forming slice)

-- a slice's name
abbrev name_of : Slice → List ℕ
name_of slice = slice.name

-- a sub's name is the parent's, an underscore and a decimal
pub sub_name-cut : (parent : List ℕ) (i : ℕ) → sub_name parent i ≡ parent ++ underscore ∷ decimal i
sub_name-cut parent i = append_assoc parent (codes "_") (decimal i)

-- what begins as the names of a parent's subs extends the parent's name
Extends-from_prefix : (parent name : List ℕ) → IsTrue (starts_with nat_eq name (sub_prefix parent))
    → Extends parent name
Extends-from_prefix parent name begins =
    let cut = (starts_is Decides-eqb name (sub_prefix parent) _ refl).0 begins in
    (_, cut ∙ append_assoc parent (codes "_") _)

-- the way back
prefix_from_Extends : (parent name : List ℕ) → Extends parent name
    → IsTrue (starts_with nat_eq name (sub_prefix parent))
prefix_from_Extends parent name (rest, is) =
    (starts_is Decides-eqb name (sub_prefix parent) _ refl).1 rest (is ∙ sym (append_assoc parent (codes "_") rest))

-- after a parent's name and an underscore, a decimal is no text with an underscore
decimal-alone : (parent name prefix rest : List ℕ) (i : ℕ) → name ≡ parent ++ underscore ∷ decimal i
    → name ≢ parent ++ underscore ∷ (prefix ++ underscore ∷ rest)
decimal-alone parent name prefix rest i one other =
    let longer = underscore ∷ (prefix ++ underscore ∷ rest) in
    let tails = append_cancel_left parent (underscore ∷ decimal i) longer (sym one ∙ other) in
    let digits : decimal i ≡ prefix ++ underscore ∷ rest = cc in
    underscore_in prefix rest (subst HasNoUnderscore digits (decimal-HasNoUnderscore i))

-- what extends a longer name extends the parent's
extended-append : (parent name rest more : List ℕ) → name ≡ parent ++ underscore ∷ rest
    → name ++ underscore ∷ more ≡ parent ++ underscore ∷ (rest ++ underscore ∷ more)
extended-append parent name rest more is =
    ap (λ prefix. prefix ++ underscore ∷ more) is ∙ append_assoc parent (underscore ∷ rest) (underscore ∷ more)

-- subs of the same name have parents of the same name
pub sub_name-injective : (a b : List ℕ) (i j : ℕ) → sub_name a i ≡ sub_name b j → a ≡ b
sub_name-injective a b i j same =
    by (cut_at_underscore a b (decimal i) (decimal j) (decimal-HasNoUnderscore j) (sym (sub_name-cut a i) ∙ cut))
  where
    cut : sub_name a i ≡ b ++ underscore ∷ decimal j
    cut = same ∙ sub_name-cut b j

    by : (a ≡ b) ⊎ Extends a b → a ≡ b
    by (inl equal) = equal
    by (inr (rest, is)) =
        let after_it = cut ∙ extended-append a b rest (decimal j) is in
        absurd (decimal-alone a (sub_name a i) rest (decimal j) i (sub_name-cut a i) after_it)

-- the slices have different names
abbrev DifferInName : Slice → Slice → Type 0
DifferInName a b = a.name ≢ b.name

differ_from_distinct : (slices : List Slice) → IsDistinct bytes_eq (map name_of slices) → AllPairs DifferInName slices
differ_from_distinct slices distinct =
    AllPairs-from_map (λ a b. a ≢ b) name_of slices (AllPairs-from_IsDistinct bytes_eq-Decides _ distinct)

-- the way back
distinct_from_differ : (slices : List Slice) → AllPairs DifferInName slices → IsDistinct bytes_eq (map name_of slices)
distinct_from_differ slices differ =
    IsDistinct-from_AllPairs bytes_eq-Decides _ (AllPairs-map (λ a b. a ≢ b) name_of slices differ)

-- the names of a new collection's slices have no underscore
first_name-HasNoUnderscore : (i : ℕ) → HasNoUnderscore (first_name i)
first_name-HasNoUnderscore i =
    All-append (λ byte. byte ≢ underscore) (codes "shard") (decimal i) shard (decimal-HasNoUnderscore i)
  where
    shard : HasNoUnderscore (codes "shard")
    shard = All-from_recursion (λ byte. byte ≢ underscore) (codes "shard")
        (omega arith, (omega arith, (omega arith, (omega arith, (omega arith, tt)))))

-- the names of a new collection's slices are distinct
pub first_names : (shards replicas nodes : ℕ) (slices : List Slice) → shards ≤ most_slices
    → AreFirst shards replicas nodes slices → IsDistinct bytes_eq (map (λ (slice : Slice). slice.name) slices)
first_names shards replicas nodes slices few first = distinct_from_differ slices differ
  where
    named : (i : ℕ) (d : Slice) → i < length slices → (get_or slices i d).name ≡ first_name (i + 1)
    named i d within = let is = first.each i (get_or slices i d) (slice_get-get_or slices i d within) in is.name

    differ : AllPairs DifferInName slices
    differ i j d before within same =
        let count : length slices ≡ shards = first.count in
        let names : first_name (i + 1) ≡ first_name (j + 1) = sym (named i d (omega arith)) ∙ same ∙ named j d within in
        let decimals = append_cancel_left (codes "shard") (decimal (i + 1)) (decimal (j + 1)) names in
        let equal : i + 1 ≡ j + 1 = decimal_injective (i + 1) (j + 1) (omega arith) (omega arith) decimals in
        omega arith

-- and none begins as a sub's would
pub first_apart : (shards replicas nodes : ℕ) (slices : List Slice) → shards ≤ most_slices
    → AreFirst shards replicas nodes slices → IsApart slices
first_apart shards replicas nodes slices few first parent slice there (i, within, at) active begins =
    let is = first.each i slice (slice_get_read slices (length slices) i slice refl within (sym at)) in
    let named : slice.name ≡ first_name (i + 1) = is.name in
    let none : HasNoUnderscore slice.name = subst HasNoUnderscore (sym named) (first_name-HasNoUnderscore (i + 1)) in
    let (rest, longer) = Extends-from_prefix parent.name slice.name begins in
    absurd (underscore_in parent.name rest (subst HasNoUnderscore longer none))

-- a slice whose name extends that of an active one is being made
forming_from_Extends : (slices : List Slice) (parent slice : Slice) → IsApart slices → Contains slices parent
    → Contains slices slice → is_active parent ≡ true → Extends parent.name slice.name → is_forming slice ≡ true
forming_from_Extends slices parent slice apart there here active longer =
    apart parent slice there here active (prefix_from_Extends parent.name slice.name longer)

-- while no split is open, the names of an active slice's subs are new
pub planned_fresh : (slices : List Slice) (parent : Slice) (subs : List SubSlice) (greatest : ℕ) → IsMap slices
    → forming slices ≡ [] → Contains slices parent → parent.state ≡ states.Active
    → ((i : ℕ) (sub : SubSlice) → slice_get subs i ≡ Some sub → IsPlanned parent greatest i sub)
    → (slice : Slice) (sub : SubSlice) → Contains slices slice → Contains subs sub → slice.name ≢ sub.name
planned_fresh slices parent subs greatest is_map idle there active planned slice sub here (i, within, at) same =
    let is = planned i sub (slice_get_read subs (length subs) i sub refl within (sym at)) in
    let named : sub.name ≡ sub_name parent.name i = is.name in
    let longer : Extends parent.name slice.name = (decimal i, same ∙ named ∙ sub_name-cut parent.name i) in
    let forms = forming_from_Extends slices parent slice is_map.apart there here (ap is_active_state active) longer in
    let formed = Contains-filter is_forming slices slice here forms in
    let (k, inside, _) = subst (λ none. Contains none slice) idle formed in
    absurd (omega arith)

-- the names of planned subs are distinct
differ_planned : (slices : List Slice) (parent : SliceId) (subs : List SubSlice) → IsPlan slices parent subs
    → AllPairs (λ (a b : SubSlice). a.name ≢ b.name) subs
differ_planned slices parent subs plan i j d before within same =
    let (slice, may_cut, planned) = plan.cut in
    let one = planned i (get_or subs i d) (slice_get-get_or subs i d (omega arith)) in
    let other = planned j (get_or subs j d) (slice_get-get_or subs j d within) in
    let few : length slices + length subs ≤ most_slices = plan.few in
    let names : sub_name slice.name i ≡ sub_name slice.name j = sym one.name ∙ same ∙ other.name in
    let decimals = append_cancel_left (sub_prefix slice.name) (decimal i) (decimal j) names in
    let equal : i ≡ j = decimal_injective i j (omega arith) (omega arith) decimals in
    omega arith

-- a planned sub has another name than any slice
differ_fresh : (slices : List Slice) (parent : SliceId) (subs : List SubSlice) → IsPlan slices parent subs
    → (old new : Slice) → Contains slices old → Contains (map begun_slice subs) new → DifferInName old new
differ_fresh slices parent subs plan old new there made same =
    let (sub, planned, is) = Contains-from_map begun_slice subs new made in
    plan.fresh old sub there planned (same ∙ ap name_of (sym is))

-- the names with those of planned subs are distinct
differ_begun : (slices : List Slice) (parent : SliceId) (subs : List SubSlice) → AllPairs DifferInName slices
    → IsPlan slices parent subs → AllPairs DifferInName (slices ++ map begun_slice subs)
differ_begun slices parent subs differ plan =
    let made = AllPairs-map DifferInName begun_slice subs (differ_planned slices parent subs plan) in
    AllPairs-append DifferInName slices (map begun_slice subs) differ made (differ_fresh slices parent subs plan)

-- the names of the slices that stay are distinct
names_filter : (p : Slice → Bool) (slices : List Slice) → IsDistinct bytes_eq (map name_of slices)
    → IsDistinct bytes_eq (map name_of (filter p slices))
names_filter p slices distinct =
    let differ = differ_from_distinct slices distinct in
    distinct_from_differ (filter p slices) (AllPairs-filter DifferInName p slices differ)

-- a change of states keeps the names
name-recovering : (slice : Slice) → (recovering_slice slice).name ≡ slice.name
name-recovering slice = recovering_keeps name_of (λ state s. refl) slice

name-switched : (parent : SliceId) (slice : Slice) → (switched_slice parent slice).name ≡ slice.name
name-switched parent slice = switched_keeps name_of (λ state s. refl) parent slice

-- the names are distinct after a change
pub change_names : (slices : List Slice) (change : Change) → IsMap slices → MayChange slices change
    → IsDistinct bytes_eq (map (λ (slice : Slice). slice.name) (after slices change))
change_names slices (Change.Begun parent subs) is_map may =
    distinct_from_differ _ (differ_begun slices parent subs (differ_from_distinct slices is_map.names) may)
change_names slices (Change.Recovering parent) is_map may =
    let kept = map-map_kept name_of recovering_slice name-recovering slices in
    subst (IsDistinct bytes_eq) (sym kept) is_map.names
change_names slices (Change.Switched parent) is_map may =
    let kept = map-map_kept name_of (switched_slice parent) (name-switched parent) slices in
    subst (IsDistinct bytes_eq) (sym kept) is_map.names
change_names slices (Change.Failed parent) is_map may = names_filter _ slices is_map.names
change_names slices (Change.Dropped dropped) is_map may = names_filter _ slices is_map.names

-- the slices that stay are apart
IsApart-filter : (p : Slice → Bool) (slices : List Slice) → IsApart slices → IsApart (filter p slices)
IsApart-filter p slices apart parent slice there here =
    apart parent slice (Contains-from_filter p slices parent there).0 (Contains-from_filter p slices slice here).0

-- the slices with those that a split begins to make are apart
IsApart-begun : (slices : List Slice) (subs : List SubSlice) → IsApart slices
    → IsApart (slices ++ map begun_slice subs)
IsApart-begun slices subs apart parent slice there here active begins = by (cases parent there) (cases slice here)
  where
    cases : (s : Slice) → Contains (slices ++ map begun_slice subs) s
        → Contains slices s ⊎ Contains (map begun_slice subs) s
    cases s = Contains-append_cases slices (map begun_slice subs) s

    by : Contains slices parent ⊎ Contains (map begun_slice subs) parent
        → Contains slices slice ⊎ Contains (map begun_slice subs) slice → IsTrue (is_forming slice)
    by _ (inr made) = let (sub, planned, is) = Contains-from_map begun_slice subs slice made in ap is_forming (sym is)
    by (inl known) (inl old) = apart parent slice known old active begins
    by (inr made) (inl old) =
        let (sub, planned, is) = Contains-from_map begun_slice subs parent made in
        absurd (both_ways (is_active parent) (ap is_active (sym is)) active)

-- the slices are apart in recovery
IsApart-recovering : (slices : List Slice) → IsApart slices → IsApart (map recovering_slice slices)
IsApart-recovering slices apart parent slice there here active begins =
    let (before, known, parent_is) = Contains-from_map recovering_slice slices parent there in
    let (old, kept, slice_is) = Contains-from_map recovering_slice slices slice here in
    let was_active : is_active before ≡ true = sym (is_active-recovering before) ∙ ap is_active parent_is ∙ active in
    let parent_name : parent.name ≡ before.name = ap name_of (sym parent_is) ∙ name-recovering before in
    let slice_name : slice.name ≡ old.name = ap name_of (sym slice_is) ∙ name-recovering old in
    let longer = subst₂ Extends parent_name slice_name (Extends-from_prefix parent.name slice.name begins) in
    let forms = forming_from_Extends slices before old apart known kept was_active longer in
    ap is_forming (sym slice_is) ∙ is_forming-recovering old ∙ forms

-- what is active after a switch was being made, or was active and is not the slice with this id
active_before : (parent : SliceId) (slice : Slice) → is_active (switched_slice parent slice) ≡ true
    → (is_forming slice ≡ true) ⊎ ((is_active slice ≡ true) × (slice.id.0 ≢ parent.0))
active_before parent slice active = by (is_forming slice) (slice.id.0 == parent.0) refl refl was
  where
    was : cond (is_forming slice) true (cond (slice.id.0 == parent.0) false (is_active slice)) ≡ true
    was = sym (is_active-switched parent slice) ∙ active

    by : (t u : Bool) → is_forming slice ≡ t → (slice.id.0 == parent.0) ≡ u
        → cond t true (cond u false (is_active slice)) ≡ true
        → (is_forming slice ≡ true) ⊎ ((is_active slice ≡ true) × (slice.id.0 ≢ parent.0))
    by true u forms same was = inl forms
    by false true idle same was = absurd (both_ways false refl was)
    by false false idle other was = inr (was, eqb-false slice.id.0 parent.0 other)

module _ (slices : List Slice) (parent : Slice) (is_map : IsMap slices) (splitting : IsSplitting slices parent) where
  -- what is being made is named as the parent's sub
  named_sub : (slice : Slice) → Contains slices slice → is_forming slice ≡ true
      → (i : ℕ) × (slice.name ≡ parent.name ++ underscore ∷ decimal i)
  named_sub slice here forms =
      let formed : Contains (forming slices) slice = Contains-filter is_forming slices slice here forms in
      let sub = All-contains (IsSubOf parent) (forming slices) slice splitting.subs formed in
      let (i, named) = sub.name in
      (i, named ∙ sub_name-cut parent.name i)

  -- no name extends that of a slice that is being made
  forming_alone : (sub slice : Slice) → Contains slices sub → is_forming sub ≡ true → Contains slices slice
      → ¬ Extends sub.name slice.name
  forming_alone sub slice there forms here (rest, longer) =
      let (j, sub_is) = named_sub sub there forms in
      let after_it = longer ∙ extended-append parent.name sub.name (decimal j) rest sub_is in
      let active : is_active parent ≡ true = ap is_active_state splitting.active in
      let formed = forming_from_Extends slices parent slice is_map.apart splitting.there here active (_, after_it) in
      let (i, named) = named_sub slice here formed in
      decimal-alone parent.name slice.name (decimal j) rest i named after_it

  -- nor that of an active slice other than the parent
  active_alone : (other slice : Slice) → Contains slices other → is_active other ≡ true → other ≢ parent
      → Contains slices slice → ¬ Extends other.name slice.name
  active_alone other slice there active differs here (rest, longer) =
      let forms = forming_from_Extends slices other slice is_map.apart there here active (rest, longer) in
      let (i, named) = named_sub slice here forms in
      by (cut_at_underscore other.name parent.name rest (decimal i) (decimal-HasNoUnderscore i) (sym longer ∙ named))
    where
      by : (other.name ≡ parent.name) ⊎ Extends other.name parent.name → ⊥
      by (inl same) =
          let apart = AllPairs-from_IsDistinct bytes_eq-Decides (map name_of slices) is_map.names in
          differs (same_from_key name_of slices other parent apart there splitting.there same)
      by (inr inner) =
          let forms = forming_from_Extends slices other parent is_map.apart there splitting.there active inner in
          both_ways (is_forming parent) (active_settled parent splitting.active) forms

  -- so no name extends that of a slice that a switch leaves active
  extends_none : (before slice : Slice) → Contains slices before → Contains slices slice
      → is_active (switched_slice parent.id before) ≡ true → ¬ Extends before.name slice.name
  extends_none before slice there here active longer = by (active_before parent.id before active)
    where
      by : (is_forming before ≡ true) ⊎ ((is_active before ≡ true) × (before.id.0 ≢ parent.id.0)) → ⊥
      by (inl forms) = forming_alone before slice there forms here longer
      by (inr (was, other)) =
          let differs : before ≢ parent = λ same. other (ap (λ (s : Slice). s.id.0) same) in
          active_alone before slice there was differs here longer

  -- the slices are apart once the parent's subs have taken its place
  IsApart-switched : IsApart (map (switched_slice parent.id) slices)
  IsApart-switched heir slice there here active begins =
      let (before, known, heir_is) = Contains-from_map (switched_slice parent.id) slices heir there in
      let (old, kept, slice_is) = Contains-from_map (switched_slice parent.id) slices slice here in
      let heir_name : heir.name ≡ before.name = ap name_of (sym heir_is) ∙ name-switched parent.id before in
      let slice_name : slice.name ≡ old.name = ap name_of (sym slice_is) ∙ name-switched parent.id old in
      let longer = subst₂ Extends heir_name slice_name (Extends-from_prefix heir.name slice.name begins) in
      absurd (extends_none before old known kept (ap is_active heir_is ∙ active) longer)

-- the slices are apart after a change
pub change_apart : (slices : List Slice) (change : Change) → IsMap slices → MayChange slices change
    → IsApart (after slices change)
change_apart slices (Change.Begun parent subs) is_map may = IsApart-begun slices subs is_map.apart
change_apart slices (Change.Recovering parent) is_map may = IsApart-recovering slices is_map.apart
change_apart slices (Change.Switched parent) is_map (slice, is, splitting) =
    subst (λ id. IsApart (map (switched_slice id) slices)) is (IsApart-switched slices slice is_map splitting)
change_apart slices (Change.Failed parent) is_map may = IsApart-filter _ slices is_map.apart
change_apart slices (Change.Dropped dropped) is_map may = IsApart-filter _ slices is_map.apart
