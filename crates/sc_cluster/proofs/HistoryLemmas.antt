-- What becomes of a map by one change after another.
use Rattle.std.proofs.Common.{◌≡◌, ℕ, ◌+◌, ◌<◌, ◌≤◌, ◌⊎◌, inl, inr, Bool, true, false, not, cond, eqb, List, [], ◌∷◌, map, refl, sym, ap, ◌∙◌, subst, le_refl, Contains, arith}
use Rattle.std.specs.List.{count_by}
use Rattle.std.proofs.lemmas.Bool.{ne_eqb, eqb-true}
use Rattle.std.proofs.lemmas.List.Elements.{All-contains, Contains-append_left}
use Rattle.std.proofs.lemmas.Map.Made.{AllPairs-from_IsDistinct}
use Rattle.std.proofs.lemmas.Slice.Eq.{bytes_eq-Decides}
use Rattle.sc_record.specs.declared.slice.SliceId.{SliceId}
use Rattle.sc_record.specs.declared.slice.SubSlice.{SubSlice}
use Rattle.sc_cluster.specs.declared.slice.State.TheVariants as states
use Rattle.sc_cluster.specs.declared.slice.Slice.{Slice}
use Rattle.sc_cluster.specs.Slices.{is_forming, forming, greatest_id}
use Rattle.sc_cluster.specs.Map.{IsSubOf, IsSplitting, IsMap}
use Rattle.sc_cluster.specs.Changes.{Change, begun_slice, recovering_slice, switched_slice, after, MayChange}
use Rattle.sc_cluster.specs.Histories.{after_all, AreAllowed, begins, ends, KeepsAMap, OpensOneSplit, HasOneParent, UsesNoIdAgain}
use Rattle.sc_cluster.proofs.ListLemmas.{Contains-map, Contains-filter, Contains-from_filter, All-from_slice_get, same_from_key}
use Rattle.sc_cluster.proofs.CountLemmas.{count_by-cons}
use Rattle.sc_cluster.proofs.OrderLemmas.{same_from_rising_key}
use Rattle.sc_cluster.proofs.IdLemmas.{id_of, greatest_id-bounds}
use Rattle.sc_cluster.proofs.StateLemmas.{is_settled, is_other, active_settled, recovering-active, switched-active, switched-forming}
use Rattle.sc_cluster.proofs.SplitLemmas.{some_forming, not_idle}
use Rattle.sc_cluster.proofs.NameLemmas.{sub_name-injective}
use Rattle.sc_cluster.proofs.MapLemmas.{change_is_map, begun_is_split, recovering_is_split, switched_is_idle, failed_is_idle, dropped_is_idle}

-- a map stays one, change by change
pub keeps_a_map : KeepsAMap
keeps_a_map slices [] is_map allowed = is_map
keeps_a_map slices (change ∷ changes) is_map (may, allowed) =
    keeps_a_map (after slices change) changes (change_is_map slices change is_map may) allowed

-- n splits are open: none or one
abbrev HasOpen : List Slice → ℕ → Type 0
HasOpen slices n = ((forming slices ≡ []) × (n ≡ 0)) ⊎ ((parent : Slice) × IsSplitting slices parent × (n ≡ 1))

-- how many are open after a change, where n were before it
abbrev Opens : List Slice → Change → ℕ → Type 0
Opens slices change n =
    (m : ℕ) × HasOpen (after slices change) m × (cond (begins change) 1 0 + n ≡ cond (ends change) 1 0 + m)

change_opens : (slices : List Slice) (change : Change) (n : ℕ) → IsMap slices → MayChange slices change
    → HasOpen slices n → Opens slices change n
change_opens slices (Change.Begun parent subs) n is_map may (inl (idle, none)) =
    let next = begun_is_split slices parent subs is_map may in (1, inr (next.0, next.2, refl), omega arith)
change_opens slices (Change.Begun parent subs) n is_map may (inr (other, splitting, one)) =
    absurd (not_idle slices other splitting may.idle)
change_opens slices (Change.Recovering parent) n is_map (split, each) (inl (idle, none)) =
    absurd (not_idle slices split.0 split.2 idle)
change_opens slices (Change.Recovering parent) n is_map (split, each) (inr (other, splitting, one)) =
    let next = recovering_is_split slices parent split in (1, inr (next.0, next.2, refl), omega arith)
change_opens slices (Change.Switched parent) n is_map split (inl (idle, none)) =
    absurd (not_idle slices split.0 split.2 idle)
change_opens slices (Change.Switched parent) n is_map split (inr (other, splitting, one)) =
    (0, inl (switched_is_idle slices parent, refl), omega arith)
change_opens slices (Change.Failed parent) n is_map split (inl (idle, none)) =
    absurd (not_idle slices split.0 split.2 idle)
change_opens slices (Change.Failed parent) n is_map split (inr (other, splitting, one)) =
    (0, inl (failed_is_idle slices parent, refl), omega arith)
change_opens slices (Change.Dropped dropped) n is_map may (inl (idle, none)) =
    (0, inl (dropped_is_idle slices dropped idle, refl), omega arith)
change_opens slices (Change.Dropped dropped) n is_map may (inr (other, splitting, one)) =
    absurd (not_idle slices other splitting may.0)

-- of those that are open at first and those that begin, all have ended or all but one
abbrev AreEnded : List Change → ℕ → Type 0
AreEnded changes n =
    (count_by begins changes + n ≡ count_by ends changes)
    ⊎ (count_by begins changes + n ≡ count_by ends changes + 1)

AreEnded-cons : (change : Change) (changes : List Change) (n m : ℕ)
    → cond (begins change) 1 0 + n ≡ cond (ends change) 1 0 + m → AreEnded changes m
    → AreEnded (change ∷ changes) n
AreEnded-cons change changes n m balance (inl all) =
    inl (omega (arith, count_by-cons begins change changes, count_by-cons ends change changes))
AreEnded-cons change changes n m balance (inr but_one) =
    inr (omega (arith, count_by-cons begins change changes, count_by-cons ends change changes))

AreEnded-allowed : (slices : List Slice) (changes : List Change) (n : ℕ) → IsMap slices
    → AreAllowed slices changes
    → HasOpen slices n → AreEnded changes n
AreEnded-allowed slices [] n is_map allowed (inl (idle, none)) = inl (omega arith)
AreEnded-allowed slices [] n is_map allowed (inr (parent, splitting, one)) = inr (omega arith)
AreEnded-allowed slices (change ∷ changes) n is_map (may, allowed) before =
    let step = change_opens slices change n is_map may before in
    let next_map = change_is_map slices change is_map may in
    AreEnded-cons change changes n step.0 step.2
    (AreEnded-allowed (after slices change) changes step.0 next_map allowed step.1)

pub opens_one_split : OpensOneSplit
opens_one_split slices changes is_map idle allowed =
    by (AreEnded-allowed slices changes 0 is_map allowed (inl (idle, refl))) where
      by : AreEnded changes 0
          → (count_by begins changes ≡ count_by ends changes)
          ⊎ (count_by begins changes ≡ count_by ends changes + 1)
      by (inl all) = inl (omega arith)
      by (inr but_one) = inr (omega arith)

-- the name of a slice that is being made has its parent's in it
pub has_one_parent : HasOneParent
has_one_parent slices one other is_map first second =
    let some = some_forming slices one first in
    let one_name = (All-contains (IsSubOf one) (forming slices) some.0 first.subs some.1).name in
    let other_name = (All-contains (IsSubOf other) (forming slices) some.0 second.subs some.1).name in
    let name_of : Slice → List ℕ = λ slice. slice.name in
    let apart = AllPairs-from_IsDistinct bytes_eq-Decides (map name_of slices) is_map.names in
    same_from_key name_of slices one other apart first.there second.there
    (sub_name-injective one.name other.name one_name.0 other_name.0 (sym one_name.1 ∙ other_name.1))

-- some active slice has this id or a greater one
abbrev HasActive : List Slice → ℕ → Type 0
HasActive slices id =
    (slice : Slice) × Contains slices slice × (slice.state ≡ states.Active) × (id ≤ id_of slice)

-- in a switch the parent's subs, which are later, take its place
parent_switched : (slices : List Slice) (parent : Slice) (id : ℕ) → IsSplitting slices parent
    → id ≤ id_of parent
    → HasActive (map (switched_slice parent.id) slices) id
parent_switched slices parent id splitting most =
    let some = some_forming slices parent splitting in
    let later = (All-contains (IsSubOf parent) (forming slices) some.0 splitting.subs some.1).later in
    let made = Contains-from_filter is_forming slices some.0 some.1 in
    let there = Contains-map (switched_slice parent.id) slices some.0 made.0 in
    let same = switched-forming parent.id some.0 made.1 in
    let left : List Slice = map (switched_slice parent.id) slices in
    (record some.0 { state = states.Active }, subst (Contains left) same there, refl, omega arith)

switched_active : (slices : List Slice) (parent : Slice) (id : ℕ) → IsSplitting slices parent
    → HasActive slices id
    → HasActive (map (switched_slice parent.id) slices) id
switched_active slices parent id splitting (slice, there, active, most) =
    by (eqb slice.id.0 parent.id.0) refl where
      left : List Slice
      left = map (switched_slice parent.id) slices

      by : (t : Bool) → eqb slice.id.0 parent.id.0 ≡ t → HasActive left id
      by true is =
          let same : id_of slice ≡ id_of parent = eqb-true slice.id.0 parent.id.0 is in
          parent_switched slices parent id splitting (omega arith)
      by false is =
          let same = switched-active parent.id slice active is in
          let next = Contains-map (switched_slice parent.id) slices slice there in
          (slice, subst (Contains left) same next, active, most)

-- an inactive slice is another
dropped_is_other : (slices : List Slice) (dropped : SliceId) (slice old : Slice) → IsMap slices
    → Contains slices slice → slice.state ≡ states.Active
    → Contains slices old → old.id ≡ dropped → old.state ≡ states.Inactive → is_other dropped slice ≡ true
dropped_is_other slices dropped slice old is_map there active old_there named inactive =
    ap not (ne_eqb slice.id.0 dropped.0 differs) where
      differs : slice.id.0 ≡ dropped.0 → ⊥
      differs same =
          let ids : id_of slice ≡ id_of old = same ∙ ap (λ (id : SliceId). id.0) (sym named) in
          let is_old = same_from_rising_key id_of slices slice old is_map.ids there old_there ids in
          let states_same : slice.state ≡ old.state = ap (λ (one : Slice). one.state) is_old in
          let both : states.Active ≡ states.Inactive = sym active ∙ states_same ∙ inactive in
          cc

-- no change takes the greatest id of the active slices down
change_active : (slices : List Slice) (change : Change) (id : ℕ) → IsMap slices → MayChange slices change
    → HasActive slices id → HasActive (after slices change) id
change_active slices (Change.Begun parent subs) id is_map may (slice, there, active, most) =
    (slice, Contains-append_left slices (map begun_slice subs) slice there, active, most)
change_active slices (Change.Recovering parent) id is_map may (slice, there, active, most) =
    let next = Contains-map recovering_slice slices slice there in
    (slice, subst (Contains (map recovering_slice slices)) (recovering-active slice active) next, active, most)
change_active slices (Change.Switched parent) id is_map (slice, named, splitting) before =
    subst (λ other. HasActive (map (switched_slice other) slices) id) named
    (switched_active slices slice id splitting before)
change_active slices (Change.Failed parent) id is_map may (slice, there, active, most) =
    let settled = ap not (active_settled slice active) in
    (slice, Contains-filter is_settled slices slice there settled, active, most)
change_active slices (Change.Dropped dropped) id is_map may (slice, there, active, most) =
    let old = may.1 in
    let other = dropped_is_other slices dropped slice old.0 is_map there active old.1 old.2 old.3 in
    (slice, Contains-filter (is_other dropped) slices slice there other, active, most)

changes_active : (slices : List Slice) (changes : List Change) (id : ℕ) → IsMap slices
    → AreAllowed slices changes
    → HasActive slices id → HasActive (after_all slices changes) id
changes_active slices [] id is_map allowed before = before
changes_active slices (change ∷ changes) id is_map (may, allowed) before =
    changes_active (after slices change) changes id (change_is_map slices change is_map may) allowed
    (change_active slices change id is_map may before)

pub uses_no_id_again : UsesNoIdAgain
uses_no_id_again slices changes slice parent subs is_map allowed there active may =
    let now = after_all slices changes in
    let greatest = greatest_id now in
    let id = id_of slice in
    let last = changes_active slices changes id is_map allowed (slice, there, active, le_refl id) in
    let bound = All-contains (λ other. id_of other ≤ greatest) now last.0 (greatest_id-bounds now) last.1 in
    All-from_slice_get (λ (sub : SubSlice). slice.id.0 < sub.id.0) subs
    (λ i sub at. let counted = (may.cut.2 i sub at).id in omega (arith, last.3, bound))
