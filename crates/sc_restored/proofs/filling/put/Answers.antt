-- The core has room, and is fed a share of the cell.
use Rattle.std.proofs.Common.{ap, arith}
use Rattle.std.specs.Arc.{arc_value}
use Rattle.sc_replica.specs.Core.{Core}
use Rattle.sc_restored.proofs.FillLemmas.{puts}
use Rattle.sc_restored.proofs.filling.put.Goals as goal

pub feed-requires : goal.feed-requires
feed-requires c =
    let room = ap (λ (core : Core). core.cell_spare) c.in_ok-reserve.ensures.ok in
    omega (arith, room)

pub returns : goal.returns
returns c =
    puts c.args.replica.now c.reserve.new.self c.feed.new.self (arc_value c.args.cell.now) (arc_value c.in_ok-try_clone.field-0)
    c.in_ok-reserve.ensures.ok c.in_ok-try_clone.ensures c.feed.ensures.value
