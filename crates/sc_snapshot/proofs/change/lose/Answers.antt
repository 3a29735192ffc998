-- The terms of one old row more are among the lost.
use Rattle.std.proofs.Common.{Some, sym, ap, subst, ◌∙◌}
use Rattle.std.specs.Option.{IfSome}
use Rattle.sc_record.specs.Writes.{Write}
use Rattle.sc_snapshot.specs.Change.{LosesInPlace}
use Rattle.sc_snapshot.proofs.LostLemmas.{lose-row}
use Rattle.sc_snapshot.proofs.change.lose.Goals as goal

pub returns-in_ok-file_row : goal.returns-in_ok-file_row
returns-in_ok-file_row c = λ moved told loses.
    let rows = c.args.rows.now in
    let at = c.args.at in
    let filed = c.in_ok-file_row.ensures in
    lose-row rows at moved c.in-Some.lost told (subst (λ o. IfSome o (LosesInPlace rows at moved)) c.in-Some.is loses) c.deref.result.now _
    (c.cell.ensures ∙ ap (λ (w : Write). Some w) (sym c.deref.ensures)) filed.last_row filed.index
