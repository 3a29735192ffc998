-- The last cell has the greatest id.
use Rattle.std.proofs.Common.{◌≡◌}
use Rattle.std.specs.Arc.{arc_value}
use Rattle.sc_replica.specs.Places.{compared}
use Rattle.std.specs.declared.cmp.Ordering.TheVariants.{Less}
use Rattle.sc_replica.proofs.IdLemmas.{tested-less}
use Rattle.sc_replica.proofs.PlaceLemmas.{above-end}
use Rattle.sc_replica.proofs.cells.is_above_all.Goals as goal

pub returns-in-Some : goal.returns-in-Some
returns-in-Some c less k d low within =
    let last = c.in-Some.last.now in
    let at = rw c.args.cells.now.ok.0 at c.in-Some.ensures.lookup in
    let below : compared c.args.id.now (arc_value last) ≡ Less = rw (c.cmp.ensures, c.as_str.ensures.value, c.as_str-in-Some.ensures.value, c.id.ensures, c.deref.ensures) at (tested-less _ _ c.is_lt.ensures less) in
    above-end arc_value c.args.cells.now.items c.args.id.now last c.requires at below k d low within
