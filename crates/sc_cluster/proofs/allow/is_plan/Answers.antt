-- Each test fails exactly where a part of the plan does.
use Rattle.std.proofs.Common.{◌≡◌, ◌≤◌, ◌+◌, ℕ, List, length, map, Some, slice_get, arith, subst, sym, ap, ◌∙◌}
use Rattle.std.proofs.lemmas.Bool.{false≢true}
use Rattle.sc_record.specs.declared.slice.SubSlice.{SubSlice}
use Rattle.sc_cluster.specs.Limits.{most_slices}
use Rattle.sc_cluster.specs.Tiles.{Tiles}
use Rattle.sc_cluster.specs.Slices.{is_active_state}
use Rattle.sc_cluster.specs.Plans.{sub_bounds, IsPlanned, IsPlan}
use Rattle.sc_cluster.proofs.LeaderLemmas.{active_from_test}
use Rattle.sc_cluster.proofs.MapLemmas.{planned_is_plan}
use Rattle.sc_cluster.proofs.AllowLemmas.{cut_from_plan}
use Rattle.sc_cluster.proofs.allow.is_plan.Goals as goal

pub returns-then-not-is_active : goal.returns-then-not-is_active
returns-then-not-is_active c =
    let plan = c.args.plan.now in (
      λ passes. absurd (false≢true passes),
      λ is_plan.
          let cut = cut_from_plan c.args.slices.now plan.parent plan.subs c.in-Some.parent.now c.requires c.in-Some.ensures.0 c.in-Some.ensures.1 is_plan in
          sym c.if-not-is_active.true ∙ c.is_active.ensures ∙ ap is_active_state cut.0.active,
    )

pub returns-else-tile : goal.returns-else-tile
returns-else-tile c =
    let plan = c.args.plan.now in
    let parent = c.in-Some.parent.now in (
      λ passes. absurd (false≢true (sym c.if-tile.false ∙ passes)),
      λ is_plan.
          let cut = cut_from_plan c.args.slices.now plan.parent plan.subs parent c.requires c.in-Some.ensures.0 c.in-Some.ensures.1 is_plan in
          c.tile.ensures.1 (subst (λ subs. Tiles (map sub_bounds subs) parent.range.min parent.range.max) (sym c.as_slice-subs.ensures) cut.0.tile),
    )

pub returns-then-tile : goal.returns-then-tile
returns-then-tile c =
    let slices = c.args.slices.now in
    let plan = c.args.plan.now in
    let parent = c.in-Some.parent.now in
    let subs = c.as_slice-subs.result.now in
    let active = active_from_test parent.state (sym c.is_active.ensures ∙ c.if-not-is_active.false) in
    let tiles = c.tile.ensures.0 c.if-tile.true in
    let ArePlanned : List SubSlice → ℕ → Type 0 = λ all n. (i : ℕ) (sub : SubSlice) → slice_get all i ≡ Some sub → IsPlanned parent n i sub in
    let room : length slices + length subs ≤ most_slices = let few = c.requires.few in omega (arith, c.if-subs-slices.false) in (
      λ passes.
          subst (λ all. IsPlan slices plan.parent all) c.as_slice-subs.ensures
          (planned_is_plan slices plan.parent subs parent c.requires (c.is_idle.ensures.0 c.if-not-is_idle.false)
          (record { there = c.in-Some.ensures.0; named = c.in-Some.ensures.1; active = active; tile = tiles })
          (subst (ArePlanned subs) c.greatest_id.ensures (c.are_planned.ensures.0 passes)) room),
      λ is_plan.
          let cut = cut_from_plan slices plan.parent plan.subs parent c.requires c.in-Some.ensures.0 c.in-Some.ensures.1 is_plan in
          c.are_planned.ensures.1 (subst (λ all. ArePlanned all c.greatest_id.result) (sym c.as_slice-subs.ensures)
          (subst (ArePlanned plan.subs) (sym c.greatest_id.ensures) cut.1)),
    )
