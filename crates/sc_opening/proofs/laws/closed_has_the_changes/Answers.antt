-- The laws are the lemmas on what a closed journal says was done, and on its slices.
use Rattle.sc_opening.proofs.ChangeLemmas.{closed_has_the_changes}
use Rattle.sc_opening.proofs.ClosedLemmas.{closed_has_the_map}
use Rattle.sc_opening.proofs.laws.closed_has_the_changes.Goals as goal

pub returns-clause-changes : goal.returns-clause-changes
returns-clause-changes c = closed_has_the_changes

pub returns-clause-map : goal.returns-clause-map
returns-clause-map c = closed_has_the_map
