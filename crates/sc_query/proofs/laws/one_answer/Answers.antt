-- Each text has exactly one answer.
use Rattle.sc_query.proofs.OutcomeLemmas.{one_tree, one_fault, not_both, some_outcome}
use Rattle.sc_query.proofs.laws.one_answer.Goals as goal

pub returns : goal.returns
returns c = record {
  one_tree = one_tree;
  one_fault = one_fault;
  not_both = not_both;
  some = some_outcome;
}
