-- The next slice is counted where it is inactive.
use Rattle.std.proofs.Common.{◌≡◌, ◌∙◌, Some, sym, ap, arith}
use Rattle.std.specs.Prelude.{slice_get}
use Rattle.std.specs.Option.{option_copied}
use Rattle.sc_board.proofs.FollowLemmas.{one_more, no_more}
use Rattle.sc_board.proofs.restored.inactive_slices.Goals as goal
use Rattle.sc_board.proofs.restored.inactive_slices.Goals.{then-is_inactive, else-is_inactive}

pub loop-at-preserved : goal.loop-at-preserved
loop-at-preserved c =
    let slices = c.args.map.now in
    let at = c.loop-at.at in
    let slice = c.unwrap.result.now in
    let there : slice_get slices at ≡ Some slice = sym c.get.ensures.slice ∙ ap option_copied c.unwrap.ensures in
    let was = c.loop-at.invariant.counted in
    let few = c.loop-at.invariant.few in
    elim c.if-is_inactive.branch [
      | then-is_inactive w ↦
          let more = one_more slices at slice there (sym c.is_inactive.ensures ∙ w.if-is_inactive.true) in
          let count = w.count-is in
          record { counted = omega (arith, was, more, count); few = omega (arith, few, count) }
      | else-is_inactive w ↦
          let same = no_more slices at slice there (sym c.is_inactive.ensures ∙ w.if-is_inactive.false) in
          let count = w.count-is in
          record { counted = omega (arith, was, same, count); few = omega (arith, few, count) }
    ]
