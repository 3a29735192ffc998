-- There is room for the split, since its want would be a cause of a refusal.
use Rattle.std.proofs.Common.{arith}
use Rattle.sc_board.specs.declared.fault.BoardFault.TheVariants as faults
use Rattle.sc_board.proofs.board.Board.begin_split.Goals as goal

pub put_begun-requires-clause-room : goal.put_begun-requires-clause-room
put_begun-requires-clause-room g c =
    let not_full = c.in_ok-plan.ensures.allowed faults.LogFull in
    omega (arith, not_full)
