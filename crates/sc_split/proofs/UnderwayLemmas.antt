-- A split stays underway, or is given up.
use Rattle.std.proofs.Common.{◌≡◌, ◌≤◌, ◌<◌, true, List, [], ◌∷◌, ◌++◌, map, All, Contains, sym, ap, ◌∙◌, subst, arith}
use Rattle.std.proofs.lemmas.List.{append_assoc}
use Rattle.std.proofs.lemmas.List.Elements.{All-contains}
use Rattle.sc_record.specs.declared.slice.SliceId.{SliceId}
use Rattle.sc_record.specs.declared.slice.CoreId.{CoreId}
use Rattle.sc_record.specs.declared.entry.Entry.{Entry}
use Rattle.sc_record.specs.declared.entry.Entry.TheVariants as entry
use Rattle.sc_cluster.specs.declared.slice.Slice.{Slice}
use Rattle.sc_cluster.specs.declared.plan.SplitPlan.{SplitPlan}
use Rattle.sc_cluster.specs.Changes.{Change, begun_slice, after}
use Rattle.sc_cluster.specs.Slices.{greatest_id, is_forming, forming}
use Rattle.sc_cluster.proofs.IdLemmas.{greatest_id-bounds}
use Rattle.sc_cluster.proofs.ListLemmas.{Contains-filter}
use Rattle.sc_cluster.proofs.PairLemmas.{Contains-from_map}
use Rattle.sc_cluster.proofs.StateLemmas.{forming-begun}
use Rattle.sc_cluster.proofs.UndoLemmas.{undoes_a_failed_split}
use Rattle.sc_ulog.specs.declared.mode.Mode.TheVariants.{Active}
use Rattle.sc_replicas.specs.Cores.{is_of_one}
use Rattle.sc_handover.specs.Conditions.{split_of}
use Rattle.sc_handover.proofs.KeptLemmas.{All-kept, slice_of_one}
use Rattle.sc_handover.proofs.PlanLemmas.{sub_above}
use Rattle.sc_keeper.specs.declared.part.CorePart.{CorePart}
use Rattle.sc_keeper.specs.declared.part.Part.{Part}
use Rattle.sc_keeper.specs.Conditions.{MayBeReady, MayGrow}
use Rattle.sc_keeper.specs.Events.{PartGetsReady, PartGrows, PartAborts, made_core}
use Rattle.sc_split.specs.Buckets.{IsUnderway, IsGivenUp}
use Rattle.sc_split.proofs.GrownLemmas.{All-put}

-- the map is that from before, each core is active, and none is fed
pub is_given_up : (base old new : Part) (plan : SplitPlan) → IsUnderway base plan old → PartAborts old plan.parent new
    → IsGivenUp base plan new
is_given_up base old new plan underway aborts = record {
  map_is = map_is;
  idle = aborts.phase_is;
  active = subst (All IsActive) (sym aborts.cores_are)
      (All-kept IsActive (λ (core : CorePart). is_of_one new.map core.name) old.cores
      (λ core there kept. All-contains (λ (one : CorePart). is_of_one base.map one.name ≡ true
      → IsActive one) old.cores core underway.active there
      (subst (λ slices. is_of_one slices core.name ≡ true) map_is kept)));
  unfed = aborts.feeds_are;
  entries = aborts.entries_are ∙ ap (λ entries. entries ++ failed ∷ []) underway.entries
      ∙ append_assoc base.entries (begun ∷ []) (failed ∷ []);
}
  where
    begun : Entry
    begun = entry.Begun plan.parent plan.subs

    failed : Entry
    failed = entry.Failed plan.parent

    IsActive : CorePart → Type 0
    IsActive core = core.mode ≡ Active

    map_is : new.map ≡ base.map
    map_is =
        aborts.map_is ∙ ap (λ (slices : List Slice). after slices (Change.Failed plan.parent)) underway.map_is
        ∙ undoes_a_failed_split base.map plan.parent plan.subs underway.planned

-- the leaders are made
pub underway-ready : (base old new : Part) (plan : SplitPlan) (parent : SliceId) → MayBeReady old parent → PartGetsReady old parent new
    → IsUnderway base plan old → IsUnderway base plan new
underway-ready base old new plan parent may ready underway = record {
  planned = underway.planned;
  map_is = ready.map_is ∙ underway.map_is;
  is_open = ap split_of ready.phase_is ∙ sym (ap split_of may.building) ∙ underway.is_open;
  entries = ready.entries_are ∙ underway.entries;
  active = subst (All (λ (core : CorePart). is_of_one base.map core.name ≡ true → core.mode ≡ Active))
      (sym ready.cores_are) underway.active;
}

-- a core of a sub is of no slice from before
sub_is_new : (base old : Part) (plan : SplitPlan) (name : CoreId) (sub : Slice) → IsUnderway base plan old → MayGrow old name sub
    → is_of_one base.map name ≡ true → ⊥
sub_is_new base old plan name sub underway may of_base =
    let now : forming old.map ≡ map begun_slice plan.subs =
    ap forming underway.map_is ∙ forming-begun base.map plan.subs underway.planned.idle in
    let inside : Contains (map begun_slice plan.subs) sub =
    subst (λ slices. Contains slices sub) now (Contains-filter is_forming old.map sub may.there may.forming) in
    let (planned, there, is) = Contains-from_map begun_slice plan.subs sub inside in
    let (slice, was, same) = slice_of_one base.map name of_base in
    let above : greatest_id base.map < planned.id.0 = sub_above base.map plan.parent plan.subs planned underway.planned there in
    let below : slice.id.0 ≤ greatest_id base.map =
    All-contains (λ (s : Slice). s.id.0 ≤ greatest_id base.map) base.map slice (greatest_id-bounds base.map) was in
    let number : planned.id.0 ≡ slice.id.0 =
    ap (λ (s : Slice). s.id.0) is ∙ sym (ap (λ (id : SliceId). id.0) may.of_sub) ∙ sym (ap (λ (id : SliceId). id.0) same) in
    omega arith

-- a further replica joins
pub underway-grown : (base old new : Part) (plan : SplitPlan) (name : CoreId) (sub : Slice) → MayGrow old name sub → PartGrows old name new
    → IsUnderway base plan old → IsUnderway base plan new
underway-grown base old new plan name sub may grows underway = record {
  planned = underway.planned;
  map_is = grows.rest.map_is ∙ underway.map_is;
  is_open = ap split_of grows.rest.phase_is ∙ underway.is_open;
  entries = grows.rest.entries_are ∙ underway.entries;
  active = subst (All IsSo) (sym grows.cores_are)
      (All-put IsSo (made_core name) old.cores (λ of_base. absurd
      (sub_is_new base old plan name sub underway may of_base)) underway.active);
}
  where
    IsSo : CorePart → Type 0
    IsSo core = is_of_one base.map core.name ≡ true → core.mode ≡ Active
