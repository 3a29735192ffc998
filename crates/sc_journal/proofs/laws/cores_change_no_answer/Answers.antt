-- The law is the lemma on journals without their entries of cores.
use Rattle.sc_journal.proofs.CoreLemmas.{change_no_answer}
use Rattle.sc_journal.proofs.laws.cores_change_no_answer.Goals as goal

pub returns : goal.returns
returns c = change_no_answer
