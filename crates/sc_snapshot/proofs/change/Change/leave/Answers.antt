-- One old row more is told, which is not kept.
use Rattle.std.proofs.Common.{refl}
use Rattle.sc_snapshot.proofs.ChangeLemmas.{leave-step}
use Rattle.sc_snapshot.proofs.change.Change.leave.Goals as goal

pub returns-clause-change : goal.returns-clause-change
returns-clause-change c = λ old new low high is. leave-step old new low high c.args.self.now is _ c.in_ok-push.ensures refl tt
