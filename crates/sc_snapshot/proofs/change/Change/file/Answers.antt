-- One new row more is filed.
use Rattle.std.proofs.Common.{◌&&◌, refl, ap}
use Rattle.sc_snapshot.proofs.ChangeLemmas.{file-step}
use Rattle.sc_snapshot.proofs.change.Change.file.Goals as goal

pub returns-clause-change : goal.returns-clause-change
returns-clause-change c = λ old new low is at_new.
    let filed = c.in_ok-is_alone.ensures in
    file-step old new low c.args.number c.args.self.now is c.args.row.now _ refl at_new filed.last_row filed.index is.lost

pub returns-clause-alone : goal.returns-clause-alone
returns-clause-alone c = ap (λ b. c.args.self.now.alone && b) c.in_ok-is_alone.ensures.alone
