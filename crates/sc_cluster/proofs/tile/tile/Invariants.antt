-- So far each item passes the test.
use Rattle.std.proofs.Common.{All, map, take}
use Rattle.sc_cluster.specs.Tiles.{IsTile}
use Rattle.sc_cluster.proofs.tile.tile.Given as goal

abbrev pub invariant-loop-item : goal.invariant-loop-item
invariant-loop-item g l =
    let range = g.T.Ranged.range_bounds in
    All (λ item. IsTile (map range l.items) l.whole.min l.whole.max (range item)) (take l.item-index l.items)
