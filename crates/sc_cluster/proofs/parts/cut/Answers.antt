-- The parts are those of the cut, which tile.
use Rattle.std.proofs.Common.{sym, subst, arith}
use Rattle.std.proofs.lemmas.Int.{ints}
use Rattle.sc_cluster.specs.Tiles.{Tiles}
use Rattle.sc_cluster.proofs.CutLemmas.{cut_tiles}
use Rattle.sc_cluster.proofs.parts.cut.Goals as goal

pub returns-in-Ok-clause-tiles : goal.returns-in-Ok-clause-tiles
returns-in-Ok-clause-tiles c =
    let range = c.args.range.now in
    let tiles = cut_tiles range.min range.max c.args.n c.requires.least (omega (arith, ints)) in
    subst (λ parts. Tiles parts range.min range.max) (sym c.in-Ok.ensures) tiles
