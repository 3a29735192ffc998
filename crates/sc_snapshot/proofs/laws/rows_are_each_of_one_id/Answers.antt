-- The law is the lemma on rows whose ids ascend.
use Rattle.sc_snapshot.proofs.RowLemmas.{each_of_one_id}
use Rattle.sc_snapshot.proofs.laws.rows_are_each_of_one_id.Goals as goal

pub returns : goal.returns
returns c = each_of_one_id
