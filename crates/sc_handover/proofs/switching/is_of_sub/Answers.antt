-- A slice of the core's id is looked for, and no other has that id.
use Rattle.std.proofs.Common.{◌∙◌}
use Rattle.sc_handover.proofs.SubLemmas.{of_sub-found, of_sub-none}
use Rattle.sc_handover.proofs.switching.is_of_sub.Goals as goal

pub returns-in-Some : goal.returns-in-Some
returns-in-Some c =
    c.is_forming.ensures
    ∙ of_sub-found c.args.bucket.now.map c.args.core c.by_id.result c.in-Some.slice c.by_id.ensures.map c.by_id.ensures.slice c.in-Some.is

pub returns-in-None : goal.returns-in-None
returns-in-None c = of_sub-none c.args.bucket.now.map c.args.core c.by_id.result c.by_id.ensures.slice c.in-None.is
