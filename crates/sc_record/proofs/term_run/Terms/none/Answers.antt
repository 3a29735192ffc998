-- No terms are read of no bytes.
use Rattle.std.proofs.Common.{[]}
use Rattle.sc_record.proofs.TermRunLemmas.{none_some, terms_over}
use Rattle.sc_record.proofs.term_run.Terms.none.Goals as goal

pub invariant_of-result : goal.invariant_of-result
invariant_of-result c = none_some [] (record { id = []; doc = [] }) []

pub returns : goal.returns
returns c = terms_over [] (record { id = []; doc = [] }) []
