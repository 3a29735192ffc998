-- Two ascending lists with the same members are one.
use Rattle.sc_frames.proofs.TermLemmas.{terms_are_determined}
use Rattle.sc_frames.proofs.laws.terms_are_determined.Goals as goal

pub returns : goal.returns
returns c = λ id fields a b are others. terms_are_determined id fields a b are others
