-- What was found is spelled there, and where nothing was found nothing is.
use Rattle.std.proofs.Common.{arith}
use Rattle.sc_spelling.proofs.DocumentLemmas.{is_found, is_none}
use Rattle.sc_spelling.proofs.field.Fields.read.Goals as goal

pub returns-clause-found : goal.returns-clause-found
returns-clause-found c = is_found (λ x. (x.0, x.1.now)) c.args.bytes.now c.at.result (λ i. omega (arith, c.type_inv.bytes i)) c.at.ensures

pub returns-clause-none : goal.returns-clause-none
returns-clause-none c = is_none (λ x. (x.0, x.1.now)) c.args.bytes.now c.at.result c.at.ensures
