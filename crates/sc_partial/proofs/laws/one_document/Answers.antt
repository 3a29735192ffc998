-- The values of all names determine a document, and the merge makes it.
use Rattle.std.proofs.Common.{sym, ◌∙◌}
use Rattle.sc_partial.proofs.DocumentLemmas.{one_list, makes_one}
use Rattle.sc_partial.proofs.laws.one_document.Goals as goal

pub returns-clause-at_most : goal.returns-clause-at_most
returns-clause-at_most c = λ old changes new other made also.
    one_list new other made.document.ascends also.document.ascends (λ name. made.values name ∙ sym (also.values name))

pub returns-clause-at_least : goal.returns-clause-at_least
returns-clause-at_least c = makes_one
