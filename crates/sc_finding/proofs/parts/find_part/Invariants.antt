-- The count is a blank one.
use Rattle.sc_finding.proofs.parts.find_part.Given as goal

abbrev pub ghosts-find_counted : goal.ghosts-find_counted
ghosts-find_counted a = record { name = a.blank.name; parts = a.blank.parts }
