-- The open bits are all 0 in the first hash, and all 1 in the last.
use Rattle.std.proofs.Common.{FitsSigned, w32, rules, arith}
use Rattle.sc_router.proofs.OpenRouteLemmas.{least_is, greatest_is, ends_ordered}
use Rattle.sc_router.proofs.route.range_above.Goals as goal

pub invariant_of-result : goal.invariant_of-result
invariant_of-result c =
    let first : FitsSigned w32 c.cast_signed.result = search rules in
    let last : FitsSigned w32 c.cast_signed-2.result = search rules in
    record {
      ordered = ends_ordered c.args.bits c.args.free _ _ (omega arith) c.requires
          (least_is _ _ _ c.cast_signed.result first c.cast_signed.ensures c.joined.ensures)
          (greatest_is _ _ _ c.cast_signed-2.result last c.requires c.cast_signed-2.ensures c.joined-2.ensures);
    }

pub returns-clause-least : goal.returns-clause-least
returns-clause-least c =
    let first : FitsSigned w32 c.cast_signed.result = search rules in
    least_is _ _ _ c.cast_signed.result first c.cast_signed.ensures c.joined.ensures

pub returns-clause-greatest : goal.returns-clause-greatest
returns-clause-greatest c =
    let last : FitsSigned w32 c.cast_signed-2.result = search rules in
    greatest_is _ _ _ c.cast_signed-2.result last c.requires c.cast_signed-2.ensures c.joined-2.ensures
