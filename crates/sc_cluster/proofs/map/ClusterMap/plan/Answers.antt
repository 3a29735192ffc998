-- The slice that is found by its id is the one that may be cut.
use Rattle.std.proofs.Common.{◌≡◌, ◌∙◌, ℕ, length, slice_get, Some, map, Contains, subst, sym, ap, arith}
use Rattle.std.proofs.lemmas.List.{length-map}
use Rattle.sc_record.specs.declared.slice.SubSlice.{SubSlice}
use Rattle.sc_cluster.specs.Slices.{greatest_id}
use Rattle.sc_cluster.specs.Map.{IsMap}
use Rattle.sc_hash.specs.Bounds.{bounds}
use Rattle.sc_cluster.specs.Plans.{sub_bounds, MayCut, IsPlanned}
use Rattle.sc_cluster.proofs.FindLemmas.{found_is}
use Rattle.sc_cluster.proofs.LeaderLemmas.{same_from_id}
use Rattle.sc_cluster.proofs.MapLemmas.{planned_is_plan}
use Rattle.sc_cluster.proofs.map.ClusterMap.plan.Goals as goal

pub returns-clause-plan : goal.returns-clause-plan
returns-clause-plan c =
    let is_map : IsMap c.args.self.now = subst IsMap c.self.view_is c.self.invariant in
    let parent = c.requires.parent in
    let found = c.unwrap-slice.result.now in
    let is = found_is c.deref.result.now c.args.parent c.slice_of.result c.unwrap-slice.result c.slice_of.ensures c.unwrap-slice.ensures in
    let there : Contains c.args.self.now found = subst (λ slices. Contains slices found) (c.deref.ensures.value ∙ c.self.view_is) is.0 in
    let same : parent.0 ≡ found = same_from_id c.args.self.now parent.0 found is_map parent.1.there there (parent.1.named ∙ sym is.1) in
    let subs = c.in_ok-subs.subs in
    let ranges : map sub_bounds subs ≡ map bounds c.args.ranges.now = c.in_ok-subs.ensures.ranges ∙ ap (map bounds) c.as_slice.ensures in
    let count : length subs ≡ length c.args.ranges.now =
    sym (length-map subs sub_bounds) ∙ ap length ranges ∙ length-map c.args.ranges.now bounds in
    let cut = subst (λ slice. MayCut c.args.self.now c.args.parent (map bounds c.args.ranges.now) slice) same parent.1 in
    let greatest = c.greatest_id.ensures ∙ ap greatest_id (c.deref-2.ensures.value ∙ c.self.view_is) in
    let planned = subst (λ n. (i : ℕ) (sub : SubSlice) → slice_get subs i ≡ Some sub → IsPlanned found n i sub) greatest c.in_ok-subs.ensures.subs in
    planned_is_plan c.args.self.now c.args.parent subs found is_map c.requires.idle
    (subst (λ bounds. MayCut c.args.self.now c.args.parent bounds found) (sym ranges) cut) planned (omega (arith, c.requires.few))
