-- The count is a blank one.
use Rattle.sc_fanout.proofs.pages.page.Given as goal

abbrev pub ghosts-first_of_all : goal.ghosts-first_of_all
ghosts-first_of_all a = record { name = a.blank.name; parts = a.blank.parts }
