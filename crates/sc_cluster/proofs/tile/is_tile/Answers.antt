-- The range passes each of the four tests.
use Rattle.std.proofs.Common.{◌≤ℤ◌, IsTrue, map, FitsSigned, w32, subst, sym, ◌∙◌, rules}
use Rattle.std.specs.Prelude.{◌↔◌}
use Rattle.std.proofs.lemmas.Int.{to_z-of_z}
use Rattle.sc_hash.specs.Bounds.{bounds}
use Rattle.sc_cluster.specs.Tiles.{IsTile}
use Rattle.sc_cluster.proofs.TileTestLemmas.{IsTile-from_last}
use Rattle.sc_cluster.proofs.tile.is_tile.Goals as goal

pub returns-then-holders-eq1 : goal.returns-then-holders-eq1
returns-then-holders-eq1 g c =
    let ranges = map g.T.Ranged.range_bounds c.args.items.now in
    let whole = c.args.whole.now in
    let range = c.range-range.result in
    let fits : FitsSigned w32 range.min = search rules in
    let low : whole.min ≤ℤ range.min = search rules in
    let high : range.max ≤ℤ whole.max = search rules in
    let counted = simp to_z-of_z at c.holders.ensures in
    subst (λ pair. IsTrue c.is_followed.result ↔ IsTile ranges whole.min whole.max pair) c.range-range.ensures
    (IsTile-from_last ranges whole.min whole.max (bounds range) c.is_followed.result low high (sym counted ∙ c.if-holders-eq1.true) c.is_followed.ensures)
