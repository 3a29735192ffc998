-- The slice that is dropped is inactive, and no split is open.
use Rattle.sc_examples.proofs.splits.step.Goals as goal

pub dropped-requires : goal.dropped-requires
dropped-requires c =
    let found = c.in_ok-slice.ensures in
    (c.requires, (found.0, found.1, found.2, found.4))
