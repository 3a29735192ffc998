-- The parts of a cut tile the range of the slice that is to be split.
use Rattle.std.proofs.Common.{map, sym, subst}
use Rattle.sc_hash.specs.declared.range.Range.{Range}
use Rattle.sc_hash.specs.Bounds.{bounds}
use Rattle.sc_cluster.specs.Tiles.{Tiles}
use Rattle.sc_examples.proofs.splits.planned.Goals as goal

pub plan-requires-clause-parent : goal.plan-requires-clause-parent
plan-requires-clause-parent c =
    let found = c.in_ok-parent.ensures in
    let tile = subst (λ (range : Range). Tiles (map bounds c.in-Ok.ranges) range.min range.max) (sym found.3) c.in-Ok.ensures.tiles in
    (found.0, record { there = found.1; named = found.2; active = found.4; tile = tile })
