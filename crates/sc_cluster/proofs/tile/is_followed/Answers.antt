-- A range that ends before the whole one is followed by one.
use Rattle.std.proofs.Common.{◌+ℤ◌, FitsSigned, w32, of_z, pos, ap, arith, rules}
use Rattle.std.proofs.lemmas.Int.{ints, to_z-of_z}
use Rattle.sc_cluster.proofs.TileTestLemmas.{last_test}
use Rattle.sc_cluster.proofs.tile.is_followed.Goals as goal

pub returns-else-range-whole : goal.returns-else-range-whole
returns-else-range-whole g c =
    let max = c.args.range.now.max in
    let fits : FitsSigned w32 max = search rules in
    let whole_fits : FitsSigned w32 c.args.whole.now.max = search rules in
    let next_fits : FitsSigned w32 (max +ℤ pos 1) = omega (arith, ints) in
    let counted = simp to_z-of_z at c.holders.ensures in
    last_test _ _ _ counted (λ same. c.if-range-whole.false (ap (of_z w32) same))
