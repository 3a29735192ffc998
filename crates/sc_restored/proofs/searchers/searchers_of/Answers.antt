-- Each active slice gets its searcher, of what was written before the last entry that commits.
use Rattle.std.proofs.Common.{◌≤◌, ◌^◌, List, length, subst, ◌∙◌, Global, Vec, map, sym, ap, arith}
use Rattle.std.specs.Arc.{arc_value}
use Rattle.std.specs.declared.sync.Arc.{Arc}
use Rattle.sc_record.specs.Writes.{Write}
use Rattle.sc_restored.specs.Restored.{IsShownBy}
use Rattle.std.specs.Option.{option_copied}
use Rattle.sc_journal.proofs.CommittedLemmas.{last_commit-within}
use Rattle.sc_replicas.specs.declared.standing.Standing.{Standing}
use Rattle.sc_bucket.proofs.TakenLemmas.{Contains-slice_get, active_from_test, inactive_from_test}
use Rattle.sc_restored.proofs.ShownLemmas.{shown_none, shown_active, shown_other, all_shown, few_writes}
use Rattle.sc_restored.proofs.searchers.searchers_of.Goals as goal
use Rattle.sc_restored.proofs.searchers.searchers_of.Goals.{then-eq+in_ok-searcher_of+in_ok-push, else-eq}

pub first_of-requires : goal.first_of-requires
first_of-requires c = omega (arith, c.place_of_commit-place.ensures, last_commit-within c.args.entries.now)

pub searcher_of-requires : goal.searcher_of-requires
searcher_of-requires c =
    subst (λ (cells : List (Arc Write Global)). length cells ≤ 2 ^ 24) (sym c.as_slice.ensures.value)
    (few_writes c.args.entries.now c.in_ok-writes.writes.items c.place_of_commit-place.result c.first_of.result.now c.in_ok-writes.ensures
    c.first_of.ensures c.requires)

pub loop-at-init : goal.loop-at-init
loop-at-init c = shown_none c.args.map.now c.place_of_commit-place.result (map arc_value c.in_ok-writes.writes.items) _ c.new-searchers.ensures.items

pub loop-at-preserved : goal.loop-at-preserved
loop-at-preserved c =
    let slices = c.args.map.now in
    let slice = c.unwrap-slice.result.now in
    let there = sym c.get.ensures.slice ∙ ap option_copied c.unwrap-slice.ensures in
    let here = Contains-slice_get slices c.loop-at.at slice there in
    let these = map arc_value c.in_ok-writes.writes.items in
    let place = c.place_of_commit-place.result in
    let before = c.loop-at.searchers.items in
    elim c.if-eq.branch [
      | then-eq+in_ok-searcher_of+in_ok-push w ↦
          shown_active slices c.loop-at.at place slice these before _ w.in_ok-searcher_of.field-0 there here
          (active_from_test slice.state (sym c.eq.ensures ∙ w.if-eq.true))
          (subst (λ (cells : List (Arc Write Global)). IsShownBy place (map arc_value cells) slice w.in_ok-searcher_of.field-0)
          w.as_slice.ensures.value w.in_ok-searcher_of.ensures)
          (ap (λ (v : Vec Standing Global). v.items) w.searchers-is ∙ w.in_ok-push.ensures.items) c.loop-at.invariant
      | else-eq w ↦
          shown_other slices c.loop-at.at place slice these before _ there (inactive_from_test slice.state (sym c.eq.ensures ∙ w.if-eq.false))
          (ap (λ (v : Vec Standing Global). v.items) w.searchers-is) c.loop-at.invariant
    ]

pub returns : goal.returns
returns c =
    all_shown c.args.map.now c.args.entries.now c.loop-at.at c.place_of_commit-place.result (map arc_value c.in_ok-writes.writes.items)
    c.loop-at.searchers.items _ _ (omega (arith, c.loop-at-test.false, c.len-at-end.ensures)) c.place_of_commit-place.ensures c.in_ok-writes.ensures
    c.first_of.ensures (c.from_vec.ensures ∙ c.shrink_to_fit.ensures.items) c.loop-at.invariant
