-- A split that fails leaves the slices as they were, its end does not depend on its recovery, and ids rise by the
-- number of subs at most.
use Rattle.std.proofs.Common.{◌≡◌, ℕ, ◌+◌, ◌≤◌, Bool, true, false, not, List, [], ◌∷◌, ◌++◌, length, map, refl, sym, ap, ◌∙◌, All, arith, append-nil}
use Rattle.std.specs.List.{filter}
use Rattle.std.proofs.Math.Path.{fun_ext}
use Rattle.std.proofs.lemmas.Simd.{map-map}
use Rattle.std.proofs.lemmas.Bool.{not-true}
use Rattle.std.proofs.lemmas.Option.{slice_get_within}
use Rattle.std.proofs.lemmas.List.Sums.{sum_by-cons}
use Rattle.std.proofs.lemmas.List.Elements.{All-head, All-tail, All-map, All-append, All-filter, All-weaker, filter-append, filter_agree, filter_passes}
use Rattle.sc_record.specs.declared.slice.SliceId.{SliceId}
use Rattle.sc_record.specs.declared.slice.SubSlice.{SubSlice}
use Rattle.sc_cluster.specs.declared.slice.State.TheVariants as states
use Rattle.sc_cluster.specs.declared.slice.Slice.{Slice}
use Rattle.sc_cluster.specs.Slices.{is_forming, greatest_id}
use Rattle.sc_cluster.specs.Changes.{Change, begun_slice, in_state, recovering_slice, switched_slice, after, MayChange}
use Rattle.sc_cluster.specs.Histories.{subs_begun, CountsIdsUp, UndoesAFailedSplit, MayLeaveRecoveryOut}
use Rattle.sc_cluster.proofs.ListLemmas.{filter-none, filter-all, filter-map, none_from_filter, All-from_slice_get}
use Rattle.sc_cluster.proofs.IdLemmas.{id_of, greatest_id-bounds}
use Rattle.sc_cluster.proofs.StateLemmas.{is_settled, is_other, recovering_keeps, switched_keeps, is_forming-recovering, switched-forming}

-- ---- ids
-- the greatest id is at most what each is at most
greatest_id-le : (slices : List Slice) (n : ℕ) → All (λ slice. id_of slice ≤ n) slices → greatest_id slices ≤ n
greatest_id-le [] n each = omega arith
greatest_id-le (slice ∷ slices) n each =
    let first = All-head (λ s. id_of s ≤ n) slice slices each in
    omega (arith, greatest_id-le slices n (All-tail (λ s. id_of s ≤ n) slice slices each))

-- a change takes the greatest id up by the number of its subs at most
change_greatest : (slices : List Slice) (change : Change) → MayChange slices change
    → greatest_id (after slices change) ≤ greatest_id slices + subs_begun change
change_greatest slices (Change.Begun parent subs) may =
    let greatest = greatest_id slices in
    let most = greatest + length subs in
    let P : Slice → Type 0 = λ slice. id_of slice ≤ most in
    greatest_id-le (slices ++ map begun_slice subs) most
    (All-append P slices (map begun_slice subs)
    (All-weaker (λ slice. id_of slice ≤ greatest) P (λ slice le. omega arith) slices (greatest_id-bounds slices))
    (All-map P begun_slice subs (All-from_slice_get (λ (sub : SubSlice). sub.id.0 ≤ most) subs
    (λ i sub at. let counted = (may.cut.2 i sub at).id in let below = slice_get_within subs i sub at in omega arith))))
change_greatest slices (Change.Recovering parent) may =
    let greatest = greatest_id slices in
    omega (
      arith,
      greatest_id-le (map recovering_slice slices) greatest
          (All-map (λ slice. id_of slice ≤ greatest) recovering_slice slices
          (All-weaker (λ slice. id_of slice ≤ greatest) (λ slice. id_of (recovering_slice slice) ≤ greatest)
          (λ slice le. let kept = recovering_keeps id_of (λ _ _. refl) slice in omega arith) slices (greatest_id-bounds slices))),
    )
change_greatest slices (Change.Switched parent) may =
    let greatest = greatest_id slices in
    omega (
      arith,
      greatest_id-le (map (switched_slice parent) slices) greatest
          (All-map (λ slice. id_of slice ≤ greatest) (switched_slice parent) slices
          (All-weaker (λ slice. id_of slice ≤ greatest) (λ slice. id_of (switched_slice parent slice) ≤ greatest)
          (λ slice le. let kept = switched_keeps id_of (λ _ _. refl) parent slice in omega arith) slices (greatest_id-bounds slices))),
    )
change_greatest slices (Change.Failed parent) may =
    let greatest = greatest_id slices in
    omega (
      arith,
      greatest_id-le (filter is_settled slices) greatest
          (All-filter is_settled (λ slice. id_of slice ≤ greatest) slices (greatest_id-bounds slices)),
    )
change_greatest slices (Change.Dropped dropped) may =
    let greatest = greatest_id slices in
    omega (
      arith,
      greatest_id-le (filter (is_other dropped) slices) greatest
          (All-filter (is_other dropped) (λ slice. id_of slice ≤ greatest) slices (greatest_id-bounds slices)),
    )

pub counts_ids_up : CountsIdsUp
counts_ids_up slices [] allowed = omega arith
counts_ids_up slices (change ∷ changes) (may, allowed) =
    let rest = counts_ids_up (after slices change) changes allowed in
    omega (arith, rest, change_greatest slices change may, sum_by-cons subs_begun change changes)

-- ---- a split that fails
pub undoes_a_failed_split : UndoesAFailedSplit
undoes_a_failed_split slices parent subs may =
    let old = filter-all is_settled slices
    (All-weaker (λ slice. is_forming slice ≡ false) (λ slice. is_settled slice ≡ true) (λ slice is. ap not is) slices
    (none_from_filter is_forming slices may.idle)) in
    let new = filter-none is_settled (map begun_slice subs) (All-map (λ slice. is_settled slice ≡ false) begun_slice subs (λ _ _ _. refl)) in
    filter-append is_settled slices (map begun_slice subs)
    ∙ ap (λ prefix. prefix ++ filter is_settled (map begun_slice subs)) old
    ∙ ap (λ back. slices ++ back) new
    ∙ append-nil slices

-- ---- recovery
-- a slice that is not being made stays as it is in a recovery
recovering-settled : (slice : Slice) → is_forming slice ≡ false → recovering_slice slice ≡ slice
recovering-settled slice is = rw is refl

-- a switch makes of a slice in recovery what it makes of one under construction
switched-recovering : (parent : SliceId) (slice : Slice) → switched_slice parent (recovering_slice slice) ≡ switched_slice parent slice
switched-recovering parent slice = by (is_forming slice) refl where
  by : (t : Bool) → is_forming slice ≡ t → switched_slice parent (recovering_slice slice) ≡ switched_slice parent slice
  by false is = ap (switched_slice parent) (recovering-settled slice is)
  by true is =
      let recovers : recovering_slice slice ≡ in_state states.Recovery slice = rw is refl in
      switched-forming parent (recovering_slice slice) (is_forming-recovering slice ∙ is)
      ∙ ap (in_state states.Active) recovers
      ∙ sym (switched-forming parent slice is)

-- a map by what keeps each element is the list
map-same : {A : Type 0} (f : A → A) (xs : List A) → All (λ x. f x ≡ x) xs → map f xs ≡ xs
map-same f [] each = refl
map-same f (x ∷ xs) each =
    ap (λ y. y ∷ map f xs) (All-head (λ y. f y ≡ y) x xs each) ∙ ap (λ ys. x ∷ ys) (map-same f xs (All-tail (λ y. f y ≡ y) x xs each))

settled-recovering : (slices : List Slice) → filter is_settled (map recovering_slice slices) ≡ filter is_settled slices
settled-recovering slices =
    let stays : Slice → Bool = λ slice. is_settled (recovering_slice slice) in
    filter-map is_settled recovering_slice slices
    ∙ ap (map recovering_slice) (filter_agree stays is_settled (λ slice. ap not (is_forming-recovering slice)) slices)
    ∙ map-same recovering_slice (filter is_settled slices)
    (All-weaker (λ slice. is_settled slice ≡ true) (λ slice. recovering_slice slice ≡ slice)
    (λ slice passes. recovering-settled slice (not-true (is_forming slice) passes)) (filter is_settled slices) (filter_passes is_settled slices))

pub may_leave_recovery_out : MayLeaveRecoveryOut
may_leave_recovery_out slices parent (Change.Begun other subs) ends = cc
may_leave_recovery_out slices parent (Change.Recovering other) ends = cc
may_leave_recovery_out slices parent (Change.Switched other) ends =
    map-map (switched_slice other) recovering_slice slices ∙ ap (λ step. map step slices) (fun_ext (switched-recovering other))
may_leave_recovery_out slices parent (Change.Failed other) ends = settled-recovering slices
may_leave_recovery_out slices parent (Change.Dropped other) ends = cc
