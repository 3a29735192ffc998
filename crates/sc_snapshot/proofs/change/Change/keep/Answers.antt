-- One old row more is kept.
use Rattle.std.proofs.Common.{refl}
use Rattle.sc_snapshot.proofs.ChangeLemmas.{keep-step}
use Rattle.sc_snapshot.proofs.change.Change.keep.Goals as goal

pub returns-clause-change : goal.returns-clause-change
returns-clause-change c = λ old new low row is at_old at_new. keep-step old new low c.args.number c.args.self.now is row _ c.in_ok-push.ensures refl at_old at_new tt
