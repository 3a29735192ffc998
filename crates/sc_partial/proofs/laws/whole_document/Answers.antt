-- All fields are set.
use Rattle.sc_partial.proofs.WholeLemmas.{sets_a_whole}
use Rattle.sc_partial.proofs.laws.whole_document.Goals as goal

pub returns : goal.returns
returns c = sets_a_whole
