-- The law is the lemma on what is shown.
use Rattle.sc_json.proofs.LawLemmas.{reads_back}
use Rattle.sc_json.proofs.laws.shown_document.Goals as goal

pub returns : goal.returns
returns c = reads_back
