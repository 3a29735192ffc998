-- With more room the slice may still be led.
use Rattle.std.proofs.Common.{sym, ap, subst}
use Rattle.sc_board.specs.Kept.{BoardJournalState}
use Rattle.sc_board.specs.Leads.{MayBeLed}
use Rattle.sc_board.proofs.board.Board.check_lead.Goals as goal

pub returns-clause-slice : goal.returns-clause-slice
returns-clause-slice g c =
    subst (λ entries. MayBeLed c.args.self.now.first entries c.args.shard.now c.in_ok-slice.slice)
    (sym (ap (λ (j : BoardJournalState). j.entries) c.in_ok-reserve.ensures.ok)) c.in_ok-slice.ensures.slice
