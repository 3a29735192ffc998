-- The laws are the lemmas on what legal journals say was done, on the longest of them, and on the tests of two of them.
use Rattle.sc_opening.proofs.SameLemmas.{tests_decide}
use Rattle.sc_opening.proofs.CanLemmas.{changes_can_be_done}
use Rattle.sc_opening.proofs.LongestLemmas.{longest_is_of_first, longest_can_be_done}
use Rattle.sc_opening.proofs.laws.journals_have_changes.Goals as goal

pub returns-clause-can : goal.returns-clause-can
returns-clause-can c = changes_can_be_done

pub returns-clause-longest : goal.returns-clause-longest
returns-clause-longest c = longest_is_of_first

pub returns-clause-longest_can : goal.returns-clause-longest_can
returns-clause-longest_can c = longest_can_be_done

pub returns-clause-decides : goal.returns-clause-decides
returns-clause-decides c = tests_decide
