-- The ledger of the comparisons is the blank one.
use Rattle.sc_segment.proofs.segment.Segment.carried_in_place.Given as goal

abbrev pub ghosts-which_stay : goal.ghosts-which_stay
ghosts-which_stay g a = record { name = a.blank.name; parts = a.blank.parts }
