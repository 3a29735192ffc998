-- What is spelled of entries is read again one after another, so that two lists of them with the same bytes are one.
use Rattle.sc_frames.proofs.BodyLemmas.{one_reading}
use Rattle.sc_frames.proofs.laws.one_reading.Goals as goal

pub returns : goal.returns
returns c = λ body a b are others. one_reading body a b are others
