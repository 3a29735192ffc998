-- The shape that the arguments ask for is one that a collection may have.
use Rattle.std.proofs.Common.{◌∙◌, sym}
use Rattle.sc_arguments.specs.Arguments as asked
use Rattle.sc_arguments.specs.Found.{settings_found}
use Rattle.sc_arguments.proofs.RangeLemmas.{asked_is_shape}
use Rattle.sc_arguments.proofs.asked.script_in.Goals as goal

pub returns-clause-shape : goal.returns-clause-shape
returns-clause-shape c =
    asked_is_shape c.in_ok-shape_of.field-0 (asked.shape_of (settings_found c.args.found.now))
    (sym c.in_ok-shape_of.was ∙ c.shape_of.ensures)
