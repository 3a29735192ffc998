-- They are the rows of the snapshot of the searcher that was found.
use Rattle.std.proofs.Common.{◌∙◌}
use Rattle.sc_handover.proofs.beginning.snapshot_of.Goals as goal

pub returns : goal.returns
returns c =
    let found = c.searcher_for.ensures in (
      c.searcher_for.result.now,
      found.there,
      found.of_slice,
      c.in_ok-new.ensures.ok ∙ c.in_ok-rows.ensures ∙ c.deref.ensures,
    )
