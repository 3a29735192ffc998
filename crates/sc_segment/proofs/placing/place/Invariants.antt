-- The postings so far are placed, whatever the keys are of which they are.
use Rattle.std.proofs.Common.{List, take}
use Rattle.sc_segment.specs.Placing.{ArePlaced, IsBegun}
use Rattle.sc_segment.specs.declared.tally.Tally.{Tally}
use Rattle.sc_segment.proofs.placing.place.Given as goal

abbrev pub invariant-loop-posting : goal.invariant-loop-posting
invariant-loop-posting l = (tallies : List Tally) → IsBegun tallies l.postings l.initial.next l.initial.rows → ArePlaced 0 tallies (take l.posting-index l.postings) l.next l.rows
