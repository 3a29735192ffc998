-- Where the cores that are started are those of the board's map, they are so after a split that was given up, after one that was done,
-- and after a slice was dropped.
use Rattle.std.proofs.Common.{◌≡◌, ◌⊎◌, inl, inr, ◌∙◌, ℕ, ◌-◌, ◌+◌, ◌≤◌, ◌<◌, List, [], ◌++◌, map, Option, Some, All, Contains, sym, ap, subst, arith}
use Rattle.std.specs.Prelude.{IfSome}
use Rattle.std.specs.List.{flat_map, range_with_len}
use Rattle.std.proofs.lemmas.Bool.{cases_eq}
use Rattle.std.proofs.lemmas.List.Elements.{All-weaker, All-contains_itself, Contains-append_left, Contains-append_right, Contains-append_cases}
use Rattle.sc_record.specs.declared.slice.SubSlice.{SubSlice}
use Rattle.sc_cluster.specs.declared.plan.SplitPlan.{SplitPlan}
use Rattle.sc_cluster.specs.declared.slice.Slice.{Slice}
use Rattle.sc_cluster.specs.Map.{IsMap}
use Rattle.sc_cluster.specs.Plans.{IsPlan}
use Rattle.sc_cluster.specs.Changes.{Change, begun_slice, after}
use Rattle.sc_cluster.proofs.ListLemmas.{Contains-map}
use Rattle.sc_cluster.proofs.PairLemmas.{Contains-from_map}
use Rattle.sc_io.specs.declared.hosts.Host.{Host}
use Rattle.sc_cores.specs.Cores.{Outside, cores_of_slice, cores_of_map, with_cores, without_cores, IsNew, StartsFirst}
use Rattle.sc_cores.proofs.AmongLemmas.{none_among, joined, from_joined, in_range, range_has, core_of_slice, slice_has_core, same_named, is_new, among_with, before_with, more_with, among_without, stays_without}
use Rattle.sc_cores.proofs.ChangeLemmas.{cores_dropped, cores_kept}
use Rattle.sc_split.proofs.StartedLemmas.{leaves-those-before}
use Rattle.sc_split.specs.Outside.{sub_core_at, further_cores, cores_of, StartsCoresOfPlan, LeavesCores}
use Rattle.solr_split.specs.Running.{AreStarted}

-- ---- the cores of a split
-- the first core of a sub
abbrev first_core : ℕ → SubSlice → Host
first_core nodes sub = sub_core_at nodes sub 1

-- the cores of the slices that a split makes
abbrev made_cores : ℕ → SplitPlan → List Host
made_cores nodes plan = cores_of_map nodes (map begun_slice plan.subs)

-- a core of one of the subs is one of those
made_has : (nodes : ℕ) (plan : SplitPlan) (sub : SubSlice) (k : ℕ) (x : Host) → Contains plan.subs sub → 1 ≤ k → k ≤ sub.replicas
    → sub_core_at nodes sub k ≡ x → Contains (made_cores nodes plan) x
made_has nodes plan sub k x there least most is =
    joined (cores_of_slice nodes) (map begun_slice plan.subs) (begun_slice sub) x (Contains-map begun_slice plan.subs sub there)
    (subst (Contains (cores_of_slice nodes (begun_slice sub))) is (slice_has_core nodes (begun_slice sub) k least most))

-- the cores that a split starts are those of the slices that it makes
of_slices : (nodes : ℕ) (plan : SplitPlan) (x : Host) → Contains (cores_of nodes plan) x → Contains (made_cores nodes plan) x
of_slices nodes plan x there =
    by (Contains-append_cases (map (first_core nodes) plan.subs) (flat_map (further_cores nodes) plan.subs) x there) where
      by : Contains (map (first_core nodes) plan.subs) x ⊎ Contains (flat_map (further_cores nodes) plan.subs) x
          → Contains (made_cores nodes plan) x
      by (inl first) =
          let (sub, among, is) = Contains-from_map (first_core nodes) plan.subs x first in
          let some : 0 < sub.replicas = sub.replicated in
          made_has nodes plan sub 1 x among (omega arith) (omega arith) is
      by (inr further) =
          let (sub, among, inside) = from_joined (further_cores nodes) plan.subs x further in
          let (k, ranged, is) = Contains-from_map (sub_core_at nodes sub) (range_with_len 2 (sub.replicas - 1)) x inside in
          let range = in_range 2 (sub.replicas - 1) k ranged in
          let least : 2 ≤ k = range.0 in
          let most : k < 2 + (sub.replicas - 1) = range.1 in
          let some : 0 < sub.replicas = sub.replicated in
          made_has nodes plan sub k x among (omega arith) (omega arith) is

-- the way back
of_split : (nodes : ℕ) (plan : SplitPlan) (x : Host) → Contains (made_cores nodes plan) x → Contains (cores_of nodes plan) x
of_split nodes plan x there =
    let (slice, among, inside) = from_joined (cores_of_slice nodes) (map begun_slice plan.subs) x there in
    let (sub, is_sub, made) = Contains-from_map begun_slice plan.subs slice among in
    let own : Contains (cores_of_slice nodes (begun_slice sub)) x = subst (λ (s : Slice). Contains (cores_of_slice nodes s) x) (sym made) inside in
    let (k, least, most, is) = core_of_slice nodes (begun_slice sub) x own in
    by sub k is_sub least most is (cases_eq k 1)
  where
    firsts : List Host
    firsts = map (first_core nodes) plan.subs

    furthers : List Host
    furthers = flat_map (further_cores nodes) plan.subs

    by : (sub : SubSlice) (k : ℕ) → Contains plan.subs sub → 1 ≤ k → k ≤ sub.replicas → sub_core_at nodes sub k ≡ x
        → (k ≡ 1) ⊎ (k ≡ 1 → ⊥) → Contains (cores_of nodes plan) x
    by sub k is_sub least most is (inl one) =
        Contains-append_left firsts furthers x
        (subst (Contains firsts) (ap (sub_core_at nodes sub) (sym one) ∙ is) (Contains-map (first_core nodes) plan.subs sub is_sub))
    by sub k is_sub least most is (inr other) =
        let two : 2 ≤ k = omega (arith, other) in
        let below : k < 2 + (sub.replicas - 1) = omega arith in
        Contains-append_right firsts furthers x
        (joined (further_cores nodes) plan.subs sub x is_sub
        (subst (Contains (further_cores nodes sub)) is
        (Contains-map (sub_core_at nodes sub) (range_with_len 2 (sub.replicas - 1)) k (range_has 2 (sub.replicas - 1) k two below))))

-- no core of a map is one of those that a split of it makes
apart : (nodes : ℕ) (slices : List Slice) (plan : SplitPlan) (x : Host) → IsPlan slices plan.parent plan.subs
    → Contains (cores_of_map nodes slices) x → Contains (cores_of nodes plan) x → ⊥
apart nodes slices plan x is_plan old new =
    let (one, among, inside) = from_joined (cores_of_slice nodes) slices x old in
    let (slice, new_among, new_inside) = from_joined (cores_of_slice nodes) (map begun_slice plan.subs) x (of_slices nodes plan x new) in
    let (sub, is_sub, made) = Contains-from_map begun_slice plan.subs slice new_among in
    let own : Contains (cores_of_slice nodes (begun_slice sub)) x = subst (λ (s : Slice). Contains (cores_of_slice nodes s) x) (sym made) new_inside in
    is_plan.fresh one sub among is_sub (same_named nodes one (begun_slice sub) x inside own)

-- ---- what is started then
-- what was so where these cores were started, where the hosts report them
reported : (started : Option (List Host)) (cores : List Host) (IsSo : List Host → Type 0) → started ≡ Some cores → IfSome started IsSo → IsSo cores
reported started cores IsSo is holds = subst (λ (o : Option (List Host)). IfSome o IsSo) is holds

-- a split that was given up leaves the cores of the map
pub given_up_leaves : (nodes : ℕ) (slices : List Slice) (plan : SplitPlan) (count : ℕ) (old new : Outside) → IsPlan slices plan.parent plan.subs
    → LeavesCores nodes plan count old new → new.stop_faults ≡ old.stop_faults → AreStarted nodes slices old → AreStarted nodes slices new
given_up_leaves nodes slices plan count old new is_plan leaves steady was = (
  was.0,
  reported old.started was.0 (λ cores. All (IsNew cores) (cores_of nodes plan) → new.started ≡ Some cores) was.1
      (leaves-those-before nodes plan count old new leaves steady) all_new,
  was.2,
)
  where
    all_new : All (IsNew was.0) (cores_of nodes plan)
    all_new =
        All-weaker (Contains (cores_of nodes plan)) (IsNew was.0)
        (λ core there. is_new was.0 core (λ among. apart nodes slices plan core is_plan ((was.2 core).0 among) there))
        (cores_of nodes plan) (All-contains_itself (cores_of nodes plan))

-- one that was done adds those of its subs
pub done_adds : (nodes : ℕ) (slices later : List Slice) (plan : SplitPlan) (old new : Outside) → StartsCoresOfPlan nodes plan old new
    → cores_of_map nodes later ≡ cores_of_map nodes slices ++ made_cores nodes plan → AreStarted nodes slices old → AreStarted nodes later new
done_adds nodes slices later plan old new starts is was = (
  with_cores (cores_of nodes plan) was.0,
  reported old.started was.0 (λ cores. new.started ≡ Some (with_cores (cores_of nodes plan) cores)) was.1 starts.started,
  λ core. (to core, from core),
) where
  to : (core : Host) → Contains (with_cores (cores_of nodes plan) was.0) core → Contains (cores_of_map nodes later) core
  to core there = subst (λ (xs : List Host). Contains xs core) (sym is) (by (among_with (cores_of nodes plan) was.0 core there)) where
    by : Contains was.0 core ⊎ Contains (cores_of nodes plan) core → Contains (cores_of_map nodes slices ++ made_cores nodes plan) core
    by (inl before) = Contains-append_left (cores_of_map nodes slices) (made_cores nodes plan) core ((was.2 core).0 before)
    by (inr made) = Contains-append_right (cores_of_map nodes slices) (made_cores nodes plan) core (of_slices nodes plan core made)

  from : (core : Host) → Contains (cores_of_map nodes later) core → Contains (with_cores (cores_of nodes plan) was.0) core
  from core there =
      by (Contains-append_cases (cores_of_map nodes slices) (made_cores nodes plan) core (subst (λ (xs : List Host). Contains xs core) is there)) where
        by : Contains (cores_of_map nodes slices) core ⊎ Contains (made_cores nodes plan) core → Contains (with_cores (cores_of nodes plan) was.0) core
        by (inl before) = before_with (cores_of nodes plan) was.0 core ((was.2 core).1 before)
        by (inr made) = more_with (cores_of nodes plan) was.0 core (of_split nodes plan core made)

-- a slice that is dropped takes its cores with it
pub dropped_leaves : (nodes : ℕ) (slices : List Slice) (slice : Slice) (old new : Outside) → IsMap slices → Contains slices slice
    → IfSome old.started (λ cores. new.started ≡ Some (without_cores (cores_of_slice nodes slice) cores))
    → AreStarted nodes slices old → AreStarted nodes (after slices (Change.Dropped slice.id)) new
dropped_leaves nodes slices slice old new is_map inside left was = (
  without_cores (cores_of_slice nodes slice) was.0,
  reported old.started was.0 (λ cores. new.started ≡ Some (without_cores (cores_of_slice nodes slice) cores)) was.1 left,
  λ core. (to core, from core),
) where
  to : (core : Host) → Contains (without_cores (cores_of_slice nodes slice) was.0) core
      → Contains (cores_of_map nodes (after slices (Change.Dropped slice.id))) core
  to core there =
      let parts = among_without (cores_of_slice nodes slice) was.0 core there in
      cores_kept nodes slices slice is_map inside core ((was.2 core).0 parts.0) parts.1

  from : (core : Host) → Contains (cores_of_map nodes (after slices (Change.Dropped slice.id))) core
      → Contains (without_cores (cores_of_slice nodes slice) was.0) core
  from core there =
      let parts = cores_dropped nodes slices slice is_map inside core there in
      stays_without (cores_of_slice nodes slice) was.0 core ((was.2 core).1 parts.0) parts.1

-- the cores of the first map are started where none was before
pub first_are_started : (nodes : ℕ) (first : List Slice) (old new : Outside) → old.started ≡ Some [] → StartsFirst nodes first old new
    → AreStarted nodes first new
first_are_started nodes first old new none starts = (
  with_cores (cores_of_map nodes first) [],
  reported old.started [] (λ cores. new.started ≡ Some (with_cores (cores_of_map nodes first) cores)) none starts.started,
  λ core. (λ there. by core (among_with (cores_of_map nodes first) [] core there), more_with (cores_of_map nodes first) [] core),
) where
  by : (core : Host) → Contains [] core ⊎ Contains (cores_of_map nodes first) core → Contains (cores_of_map nodes first) core
  by core (inl nothing) = absurd (none_among core nothing)
  by core (inr one) = one
