-- The row after the last is above them all.
use Rattle.std.proofs.Common.{arith}
use Rattle.sc_rows.specs.Joining.{EndBefore}
use Rattle.sc_rows.proofs.SiftingLemmas.{below_end, some_exact}
use Rattle.sc_rows.proofs.sifting.end_of.Goals as goal

pub returns : goal.returns
returns c =
    let rows = c.args.rows.now in
    some_exact c.checked_add.result _ _ (EndBefore rows) c.checked_add.ensures (λ end is. below_end rows end c.requires (omega (arith, is)))
