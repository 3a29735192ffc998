-- The place is taken out of those that are not settled.
use Rattle.sc_legal.proofs.KeptLemmas.{kept-settled}
use Rattle.sc_legal.proofs.kept.Kept.settled.Goals as goal

pub returns : goal.returns
returns c = λ first journal legal may is.
    kept-settled first journal c.args.self.now c.args.place c.remove.new.self c.remove.ensures.updates.0 is
