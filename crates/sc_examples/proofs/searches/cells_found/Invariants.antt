-- The count is a blank one.
use Rattle.sc_examples.proofs.searches.cells_found.Given as goal

abbrev pub ghosts-counted : goal.ghosts-counted
ghosts-counted a = record { name = a.blank.name; parts = a.blank.parts }
