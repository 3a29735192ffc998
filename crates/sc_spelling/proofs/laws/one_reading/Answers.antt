-- What is spelled is read again, so that two spellings with the same bytes are of one document.
use Rattle.sc_spelling.proofs.DocumentLemmas.{one_reading}
use Rattle.sc_spelling.proofs.laws.one_reading.Goals as goal

pub returns : goal.returns
returns c = λ a b x y h k e. one_reading a b x y h k e
