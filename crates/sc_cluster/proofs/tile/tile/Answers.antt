-- The items tile where each passes the test.
use Rattle.std.proofs.Common.{IsTrue, FitsSigned, w32, map, Contains, refl, sym, ◌∙◌, rules}
use Rattle.std.proofs.lemmas.Bool.{false≢true}
use Rattle.std.proofs.lemmas.Int.{to_z-of_z}
use Rattle.std.proofs.lemmas.List.{take_all}
use Rattle.std.proofs.lemmas.List.Elements.{All-same, All-contains}
use Rattle.sc_cluster.specs.Tiles.{IsTile}
use Rattle.sc_cluster.proofs.TileTestLemmas.{AreTiles, Tiles-from_items, items_from_Tiles, AreTiles-more}
use Rattle.sc_cluster.proofs.tile.tile.Goals as goal

pub loop-item-preserved : goal.loop-item-preserved
loop-item-preserved g c =
    let range = g.T.Ranged.range_bounds in
    let whole = c.args.whole.now in
    let passes : IsTrue c.is_tile.result = search rules in
    AreTiles-more range c.args.items.now whole.min whole.max _ _ c.loop-item-test.true c.item-item.is c.loop-item.invariant (c.is_tile.ensures.0 passes)

pub returns-then-not-is_tile : goal.returns-then-not-is_tile
returns-then-not-is_tile g c =
    let range = g.T.Ranged.range_bounds in
    let items = c.args.items.now in
    let whole = c.args.whole.now in
    let item = c.item-item.result in
    let here : Contains items item = (c.loop-item.item-index, c.loop-item-test.true, sym c.item-item.is) in (
      λ passes. absurd (false≢true passes),
      λ tiles.
          let each = items_from_Tiles range items whole.min whole.max g.met.T.Ranged.ordered tiles in
          let is_tile = All-contains (λ x. IsTile (map range items) whole.min whole.max (range x)) items item each here in
          sym c.if-not-is_tile.true ∙ c.is_tile.ensures.1 is_tile,
    )

pub returns : goal.returns
returns g c =
    let range = g.T.Ranged.range_bounds in
    let items = c.args.items.now in
    let whole = c.args.whole.now in
    let fits : FitsSigned w32 whole.min = search rules in
    let counted = simp to_z-of_z at c.holders.ensures in
    let each : AreTiles range items whole.min whole.max =
    All-same (λ x. IsTile (map range items) whole.min whole.max (range x)) _ _ (sym (take_all c.loop-item.item-index items c.loop-item-test.false)) c.loop-item.invariant in
    (λ _. Tiles-from_items range items whole.min whole.max (sym counted ∙ c.if-holders-ne1.false) each, λ _. refl)
