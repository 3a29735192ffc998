-- What was found is spelled there, and where nothing was found nothing is.
use Rattle.std.proofs.Common.{arith}
use Rattle.sc_frames.proofs.HeadLemmas.{is_found, is_none}
use Rattle.sc_frames.proofs.head.read_head.Goals as goal

pub returns-clause-found : goal.returns-clause-found
returns-clause-found c = is_found c.args.body.now c.at.result (λ i. omega (arith, c.type_inv.body i)) c.at.ensures

pub returns-clause-none : goal.returns-clause-none
returns-clause-none c = is_none c.args.body.now c.at.result c.at.ensures
